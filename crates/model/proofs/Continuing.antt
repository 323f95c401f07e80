-- A call's own answer and state continue every sheet that leads to the state it is made at.
-- It is for the calls of a certifier to cite, so nothing here does.
use Rattle.std.proofs.Common.{◌≡◌, [], ◌∷◌, ap, ◌∙◌, subst}
use Rattle.model.specs.Words.{Setup, Lawful}
use Rattle.model.specs.Sheets.{Call, Answer}
use Rattle.model.specs.Sheets.Line.{line}
use Rattle.model.specs.State.{State, fresh}
use Rattle.model.specs.Model.{Gives, after, Sheet, Leads}
use Rattle.model.specs.Law.{Continues}
use Rattle.model.proofs.Stands.{holds}

-- any call: with the answer that it gives at s, and the state that it leaves
pub continues : (P : Setup) → Lawful P → (c : Call) (s : State) (answer : Answer c) (t : State) → Gives P s c answer → t ≡ after P s c → Continues P s (line c answer) t
continues P L c s answer t gives leaves sheet (sh, e) =
    let longer : Sheet P (line c answer ∷ sheet) = (subst (λ x. Gives P x c answer) e gives, sh) in
    ((longer, leaves ∙ ap (λ x. after P x c) e), holds P L (line c answer ∷ sheet) longer)

-- a certifier just made starts the empty sheet
pub starts : (P : Setup) (s : State) → s ≡ fresh → Leads P [] s
starts P s e = (tt, e)
