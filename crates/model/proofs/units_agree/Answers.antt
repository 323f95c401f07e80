use Rattle.model.proofs.Stands.{units_agree_lem}
use Rattle.model.proofs.units_agree.Goals as goal

-- given whole: named at the function it is not found, since its end is an equation of any two verdicts
pub returns : goal.returns
returns c = units_agree_lem
