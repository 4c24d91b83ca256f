-- The ways a call can go: refused, with nothing changed, or with all its checks passed. Assumes nothing.
use Rattle.std.proofs.Common.{◌≡◌, ℕ, Bool, true, List, [], ◌∷◌, refl}
use Rattle.std.proofs.lemmas.Bool.{and_from, cond_both}
use Rattle.book.specs.declared.audience.Audience.{Audience}
use Rattle.rules.specs.declared.refusal.Refusal.{Refusal}
use Rattle.rules.specs.declared.request.Request.{Request}
use Rattle.rules.specs.Calls.{State, Call, register, unregister, request, tell, receive, serve, report, lose, Outcome, judged, refusing, passed, register_checks, register_done, unregister_checks, unregister_done, request_checks, request_done, tell_checks, tell_done, receive_checks, receive_done, serve_checks, serve_done, report_checks, report_done, lose_checks, lose_done, outcome, Given}

-- a call is refused and nothing changes, or all its checks hold
judged_cases : (P : Outcome → Type 0) (s : State) (cs : List (Bool × Refusal)) (o : Outcome) → ((r : Refusal) → P (refusing s r)) → (passed cs ≡ true → P o) → P (judged s cs o)
judged_cases P s [] o f g = g refl
judged_cases P s (c ∷ cs) o f g =
    cond_both c.0 (judged s cs o) (refusing s c.1) P (λ e. judged_cases P s cs o f (λ h. g (and_from c.0 (passed cs) e h))) (λ e. f c.1)

-- what is to be shown of each call that passed its checks
pub record Accepted (s : State) (n : ℕ) (P : Call → Outcome → Type 0) : Type 0 where
  pub registers : (p r t b : ℕ) → passed (register_checks s p r t b) ≡ true → P (register p r t b) (register_done s p r t)
  pub unregisters : (p t b : ℕ) → passed (unregister_checks s p t b) ≡ true → P (unregister p t b) (unregister_done s p t)
  pub requests : (k : Request) (p r x t b : ℕ) → passed (request_checks s k p r x t b) ≡ true → P (request k p r x t b) (request_done s k p r x t)
  pub tells : (a : Audience) (p x pr cx : ℕ) (body : List ℕ) (b : ℕ) → passed (tell_checks s a p x pr cx body b) ≡ true → P (tell a p x pr cx body b) (tell_done s a p x pr cx body)
  pub receives : (p b : ℕ) → passed (receive_checks s p b) ≡ true → P (receive p b) (receive_done s p)
  pub serves : (t a b : ℕ) → Given s (serve t a b) n → passed (serve_checks s t a b) ≡ true → P (serve t a b) (serve_done s t n)
  pub reports : (p t b : ℕ) → passed (report_checks s p t b) ≡ true → P (report p t b) (report_done s p t)
  pub loses : (p k : ℕ) → passed (lose_checks s p k) ≡ true → P (lose p k) (lose_done s p k)

pub each_call : (s : State) (n : ℕ) (P : Call → Outcome → Type 0) → ((c : Call) (r : Refusal) → P c (refusing s r)) → Accepted s n P → (c : Call) → Given s c n → P c (outcome s c n)
each_call s n P f k (register p r t b) g = judged_cases (P (register p r t b)) s (register_checks s p r t b) (register_done s p r t) (f (register p r t b)) (k.registers p r t b)
each_call s n P f k (unregister p t b) g = judged_cases (P (unregister p t b)) s (unregister_checks s p t b) (unregister_done s p t) (f (unregister p t b)) (k.unregisters p t b)
each_call s n P f k (request j p r x t b) g = judged_cases (P (request j p r x t b)) s (request_checks s j p r x t b) (request_done s j p r x t) (f (request j p r x t b)) (k.requests j p r x t b)
each_call s n P f k (tell a p x pr cx body b) g = judged_cases (P (tell a p x pr cx body b)) s (tell_checks s a p x pr cx body b) (tell_done s a p x pr cx body) (f (tell a p x pr cx body b)) (k.tells a p x pr cx body b)
each_call s n P f k (receive p b) g = judged_cases (P (receive p b)) s (receive_checks s p b) (receive_done s p) (f (receive p b)) (k.receives p b)
each_call s n P f k (serve t a b) g = judged_cases (P (serve t a b)) s (serve_checks s t a b) (serve_done s t n) (f (serve t a b)) (k.serves t a b g)
each_call s n P f k (report p t b) g = judged_cases (P (report p t b)) s (report_checks s p t b) (report_done s p t) (f (report p t b)) (k.reports p t b)
each_call s n P f k (lose p j) g = judged_cases (P (lose p j)) s (lose_checks s p j) (lose_done s p j) (f (lose p j)) (k.loses p j)
