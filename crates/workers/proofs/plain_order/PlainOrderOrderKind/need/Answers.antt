use Rattle.std.proofs.Common.{eqb, sym, ◌∙◌, arith}
use Rattle.std.proofs.lemmas.Bool.{cond-true, cond-false, eq-eqb, ne_eqb}
use Rattle.workers.proofs.Records.{plain_need}
use Rattle.workers.proofs.plain_order.PlainOrderOrderKind.need.Goals as goal

pub returns-then-index-eq0 : goal.returns-then-index-eq0
returns-then-index-eq0 c =
    sym (plain_need _ c.args.v (omega (arith, c.index.ensures)) ∙ cond-true (eqb c.args.v 0) _ _ (eq-eqb c.args.v 0 (omega (arith, c.index.ensures.value))))

pub returns-else-index-eq0 : goal.returns-else-index-eq0
returns-else-index-eq0 c =
    sym (plain_need _ c.args.v (omega (arith, c.index.ensures)) ∙ cond-false (eqb c.args.v 0) _ _ (ne_eqb c.args.v 0 (λ z. omega (arith, c.index.ensures.value))))
