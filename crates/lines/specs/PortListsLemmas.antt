-- What the ports hold, read from their queues. Assumes nothing.
use Rattle.std.specs.Prelude.{◌≡◌, ℕ, zero, suc, ◌<◌, ◌≤◌, List, [], ◌∷◌, ◌++◌, map, length, get_or, vec_items, slice_index_or, slice_set, refl}
use Rattle.std.proofs.Common.{sym, ap, ◌∙◌, ⊎_elim, arith}
use Rattle.std.proofs.Math.Path.{fun_ext}
use Rattle.std.specs.List.{All, remove}
use Rattle.std.proofs.lemmas.List.Elements.{All-head, All-tail}
use Rattle.std.proofs.lemmas.Bool.{cases_eq}
use Rattle.std.proofs.lemmas.List.{get_or-map, get_or_past, length-map, map-set, get_or-set_same, get_or-set_other}
use Rattle.line.proofs.AtPorts.{at_other, at_same}
use Rattle.line.specs.Lines.{Sized, added, at_port, port_count, without}
use Rattle.lines.specs.Queues.{frames}
use Rattle.lines.specs.PortLists.{lists}
use Rattle.lines.specs.declared.queue.Queue.{Queue}
use Rattle.lines.specs.Pieces.{cut_sized}

pub at_read : (qs : List Queue) (port : ℕ) (q : Queue) → port < length qs → q ≡ slice_index_or qs port q → lists qs port ≡ frames q
at_read qs port q h e = get_or-map frames qs port q [] h ∙ ap frames (sym e)

pub at_past : (qs : List Queue) (port : ℕ) → length qs ≡ port_count → port_count ≤ port → lists qs port ≡ []
at_past qs port all h =
    let long = length-map qs frames in
    get_or_past (map frames qs) port [] (omega arith)

pub each_sized : (qs : List Queue) (p : ℕ) → Sized (slice_index_or (map frames qs) p [])
each_sized [] p = tt
each_sized (q ∷ qs) zero = cut_sized (vec_items q.lengths) (vec_items q.octets) (omega arith) q.sized
each_sized (q ∷ qs) (suc p) = each_sized qs p

-- one queue changed: the frames of its port change as its own do
changed : (qs : List Queue) (port : ℕ) (q r : Queue) (f : List (List ℕ) → List (List ℕ)) → port < length qs → q ≡ slice_index_or qs port q → frames r ≡ f (frames q)
    → lists (slice_set qs port r) ≡ at_port (lists qs) port (f (lists qs port))
changed qs port q r f h e k =
    let long = length-map qs frames in
    let fs = f (lists qs port) in
    let here : frames r ≡ fs = k ∙ ap f (sym (at_read qs port q h e)) in
    fun_ext (λ p.
    ap (λ xs. get_or xs p []) (map-set frames qs port r) ∙
    ⊎_elim
    (λ (same : p ≡ port). ap (λ j. get_or (slice_set (map frames qs) port (frames r)) j []) same ∙ get_or-set_same (map frames qs) port (frames r) [] (omega arith) ∙ here ∙ sym (ap (at_port (lists qs) port fs) same ∙ at_same (lists qs) port fs))
    (λ (other : p ≡ port → ⊥). get_or-set_other (map frames qs) port p (frames r) [] other ∙ sym (at_other (lists qs) port p fs other))
    (cases_eq p port))

pub pushed : (qs : List Queue) (port : ℕ) (q r : Queue) (f : List ℕ) → port < length qs → q ≡ slice_index_or qs port q → frames r ≡ frames q ++ f ∷ []
    → lists (slice_set qs port r) ≡ added (lists qs) port f
pushed qs port q r f h e k = changed qs port q r (λ fs. fs ++ f ∷ []) h e k

pub removed : (qs : List Queue) (port : ℕ) (q r : Queue) (i : ℕ) → port < length qs → q ≡ slice_index_or qs port q → frames r ≡ remove (frames q) i
    → lists (slice_set qs port r) ≡ without (lists qs) port i
removed qs port q r i h e k = changed qs port q r (λ fs. remove fs i) h e k

pub first_removed : (qs : List Queue) (port : ℕ) (q r : Queue) → port < length qs → q ≡ slice_index_or qs port q → frames r ≡ remove (frames q) 0
    → lists (slice_set qs port r) ≡ without (lists qs) port 0
first_removed qs port q r h e k = removed qs port q r 0 h e k

pub all_empty : (qs : List Queue) → All (λ q. frames q ≡ []) qs → (p : ℕ) → lists qs p ≡ []
all_empty [] e p = refl
all_empty (q ∷ qs) e zero = All-head (λ r. frames r ≡ []) q qs e
all_empty (q ∷ qs) e (suc p) = all_empty qs (All-tail (λ r. frames r ≡ []) q qs e) p
