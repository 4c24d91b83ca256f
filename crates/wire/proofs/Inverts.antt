-- What is known where a reader gave a value. Assumes nothing.
use Rattle.std.proofs.Common.{◌≡◌, Bool, true, false, List, [], ◌∷◌, Ok, Err, Result, refl}
use Rattle.words.specs.declared.fault.WordFault.{WordFault}
use Rattle.wire.specs.declared.fault.FrameFault.{FrameFault}
use Rattle.wire.specs.Checks.{checked, and_then, up}

-- every check held
abbrev pub Passed : List (Bool × FrameFault) → Type 0
Passed [] = Unit {0}
Passed (c ∷ cs) = (c.0 ≡ true) × Passed cs

pub passed : {A : Type 0} (cs : List (Bool × FrameFault)) (k : Result A FrameFault) (x : A) → checked cs k ≡ Ok x → Passed cs × (k ≡ Ok x)
passed [] k x h = (tt, h)
passed ((false, e) ∷ cs) k x h = cc
passed ((true, e) ∷ cs) k x h = let r = passed cs k x h in ((refl, r.0), r.1)

pub then_ok : {A B : Type 0} (r : Result A FrameFault) (k : A → Result B FrameFault) (v : B) → and_then r k ≡ Ok v → (x : A) × (r ≡ Ok x) × (k x ≡ Ok v)
then_ok (Ok x) k v e = (x, refl, e)
then_ok (Err f) k v e = cc

pub up_ok : {A : Type 0} (r : Result A WordFault) (x : A) → up r ≡ Ok x → r ≡ Ok x
up_ok (Ok y) x e = cc
up_ok (Err f) x e = cc

pub ok_is : {A : Type 0} (x y : A) → ◌≡◌ {A = Result A FrameFault} (Ok x) (Ok y) → x ≡ y
ok_is x y e = cc
