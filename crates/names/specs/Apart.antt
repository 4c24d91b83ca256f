-- Names with the same octets are the same name.
use Rattle.std.specs.Prelude.{◌≡◌, length}
use Rattle.std.proofs.Common.{ap, subst, arith, take-append-drop, length-take}
use Rattle.names.specs.Names.{octets}
use Rattle.names.specs.declared.name.Name.{Name}
use Rattle.names.specs.contracts.name.Name.{struct, the_values, the_ghost, the_propositions}

-- a struct with ghost fields is told by its data
same_values : (v w : the_values) (e : v ≡ w) (g : the_ghost v) (h : the_ghost w) → struct.make v g ≡ struct.make w h
same_values v w e g = subst (λ u. (h : the_ghost u) → struct.make v g ≡ struct.make u h) e (λ h. ap (struct.make v) (the_propositions v g h))

same_name : (x y : Name) → x.bytes ≡ y.bytes → x.len ≡ y.len → x ≡ y
same_name x y p q =
    let e : struct.as_values x ≡ struct.as_values y = cc in
    same_values (struct.as_values x) (struct.as_values y) e (struct.ghosts x) (struct.ghosts y)

same_len : (x y : Name) → octets x ≡ octets y → x.len ≡ y.len
same_len x y e =
    let a = length-take x.len x.bytes in
    let b = length-take y.len y.bytes in
    let c = ap length e in
    let f = x.fits in
    let g = y.fits in
    let l = x.long in
    let m = y.long in
    omega arith

pub apart : (x y : Name) → octets x ≡ octets y → x ≡ y
apart x y e =
    let n = same_len x y e in
    let a = take-append-drop x.len x.bytes in
    let b = take-append-drop y.len y.bytes in
    let c = x.blank in
    let d = y.blank in
    let p : x.bytes ≡ y.bytes = cc in
    same_name x y p n
