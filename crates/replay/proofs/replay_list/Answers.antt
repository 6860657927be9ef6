use Rattle.replay.proofs.Arrays.{zeros}
use Rattle.replay.proofs.replay_list.Goals as goal

pub slice_bounds-replay_records-end : goal.slice_bounds-replay_records-end
slice_bounds-replay_records-end g c = zeros 66000

pub slice_bounds-replay_records-end-2 : goal.slice_bounds-replay_records-end-2
slice_bounds-replay_records-end-2 g c = zeros 400000

pub slice_bounds-replay_records-end-3 : goal.slice_bounds-replay_records-end-3
slice_bounds-replay_records-end-3 g c = zeros 140000
