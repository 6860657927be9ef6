use Rattle.replay.proofs.Arrays.{zeros}
use Rattle.replay.proofs.main.Goals as goal

pub slice_bounds-replay_lists-end : goal.slice_bounds-replay_lists-end
slice_bounds-replay_lists-end c = zeros 1000000
