use Rattle.std.proofs.Common.{◌∙◌, refl, arith, rules, tests}
use Rattle.std.proofs.lemmas.Iterator.{YieldsList-from_range}
use Rattle.std.proofs.lemmas.Iterator.Search.{any_from_yields_List}
use Rattle.workers.specs.Views.{lacks_at}
use Rattle.workers.proofs.Tables.{any_below}
use Rattle.workers.proofs.table.Workers.lacking.Goals as goal

pub returns : goal.returns
returns c =
    any_from_yields_List (lacks_at c.args.self.now c.args.at.worker) _ _ _ c.any.ensures.ran (YieldsList-from_range 0 c.args.count c.args.count refl (omega arith)) (λ x b q k. search (rules, tests))
    ∙ any_below (lacks_at c.args.self.now c.args.at.worker) c.args.count
