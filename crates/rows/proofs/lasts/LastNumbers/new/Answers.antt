use Rattle.std.proofs.Common.{refl}
use Rattle.model.specs.State.{no_numbers_yet}
use Rattle.rows.proofs.lasts.LastNumbers.new.Goals as goal

pub returns : goal.returns
unfolding no_numbers_yet
returns c = refl
