use Rattle.checker.proofs.Meetings.{ascii-encoded}
use Rattle.checker.proofs.meeting.meet_char.Goals as goal

pub returns-then-c-lt128 : goal.returns-then-c-lt128
returns-then-c-lt128 c = rw (ascii-encoded c.args.c c.if-c-lt128.true) c.meet_byte.ensures
