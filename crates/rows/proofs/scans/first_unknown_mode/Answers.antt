use Rattle.std.proofs.Common.{leb, ltb, ◌∙◌, arith, rules, tests}
use Rattle.std.proofs.lemmas.Bool.Decides.{nat_tests}
use Rattle.std.proofs.lemmas.Iterator.{YieldsList-from_slice}
use Rattle.std.proofs.lemmas.Iterator.Search.{position_from_yields_List}
use Rattle.terms.proofs.Failing.{position_fails}
use Rattle.terms.specs.declared.access.Access.{Access}
use Rattle.rows.proofs.scans.first_unknown_mode.Goals as goal

pub returns : goal.returns
returns c =
    position_from_yields_List (λ (a : Access). leb c.args.modes a.mode) _ _ _ c.position.ensures.ran (YieldsList-from_slice c.args.accesses.now cc) (λ x b q k. search (rules, tests))
    ∙ position_fails (λ (a : Access). leb c.args.modes a.mode) (λ (a : Access). ltb a.mode c.args.modes) (λ a. grind (arith, nat_tests)) c.args.accesses.now
