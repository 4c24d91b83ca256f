-- The promises after every call, and after every call of a list. Assumes nothing.
use Rattle.std.proofs.Common.{List, [], ◌∷◌, ◌++◌, refl, ap, subst}
use Rattle.rules.specs.declared.answer.Answer.{Answer}
use Rattle.rules.specs.Calls.{State, Call, Event}
use Rattle.rules.specs.Runs.{History, ◌▹◌, Step, Reached}
use Rattle.rules.specs.Performed.{Promised, Made, Ran, Promises}
use Rattle.rules.proofs.Copies.{copies_add_up}
use Rattle.rules.proofs.Effects.{rules_stand}
use Rattle.rules.proofs.Makers.{views_agree}

pub promised : (h : History) (s : State) → Reached s h → Promised h s
promised h s past = record { views = views_agree h s past; rules = rules_stand h s past; copies = copies_add_up h s past }

pub made : (s : State) (e : Event) (t : State) → Step s e t → Made s e t
made s e t k = record {
  step = k;
  reaches = λ h past. (s, past, k);
  promised = λ h past. promised (h ▹ e) t (s, past, k);
}

pub promises : Promises
promises = record { reached = promised; made = made }

-- one call more at the end of a list
pub ran_more : (s : State) (cs : List Call) (xs : List Answer) (t : State) (e : Event) (u : State) → Ran s cs xs t → Step t e u → Ran s (cs ++ (e.call ∷ [])) (xs ++ (e.answer ∷ [])) u
ran_more s [] xs t e u r k =
    (e, u, [], refl, made s e u (subst (λ (x : State). Step x e u) r.1 k), ap (λ x. x ++ (e.answer ∷ [])) r.0, (refl, refl))
ran_more s (c ∷ cs) xs t e u r k =
    (r.0, r.1, r.2 ++ (e.answer ∷ []), r.3, r.4, ap (λ x. x ++ (e.answer ∷ [])) r.5, ran_more r.1 cs r.2 t e u r.6 k)
