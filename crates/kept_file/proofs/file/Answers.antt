-- The bytes are counted with no room, and written where there is room for them.
use Rattle.std.proofs.Common.{arith}
use Rattle.kept_file.proofs.Room.{lacking, wrote}
use Rattle.kept_file.proofs.file.Goals as goal

pub returns-then-out-needed : goal.returns-then-out-needed
returns-then-out-needed c = lacking _ c.write_kept-needed.new.out c.args.out.now _ c.write_kept-needed.ensures (omega arith)

pub returns : goal.returns
returns c = wrote _ c.write_kept-needed.new.out c.args.out.now _ _ _ c.write_kept-needed.ensures c.write_kept.ensures (omega arith)
