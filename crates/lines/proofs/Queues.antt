-- What a queue holds, read from its lengths and octets. Assumes nothing.
use Rattle.std.proofs.Common.{◌≡◌, ℕ, ◌+◌, ◌*◌, ◌<◌, ◌≤◌, true, map, length, take, slice_index, vec_items, vec_len, ap, arith}
use Rattle.std.proofs.lemmas.Bool.{leb-true}
use Rattle.std.specs.List.{sum}
use Rattle.std.proofs.lemmas.List.Sums.{sum_by_more_le}
use Rattle.lines.specs.Queues.{frames}
use Rattle.lines.specs.Rules.{packed, taken_up}
use Rattle.lines.specs.Sizes.{most_frames, overhead, port_octets}
use Rattle.lines.specs.declared.queue.Queue.{Queue}
use Rattle.lines.specs.Pieces.{lengths_cut}
use Rattle.lines.specs.RulesLemmas.{count_below, taken_is}

pub lengths_is : (q : Queue) → map length (frames q) ≡ vec_items q.lengths
lengths_is q = lengths_cut (vec_items q.lengths) (vec_items q.octets) (omega arith)

pub count_is : (q : Queue) → length (map length (frames q)) ≡ vec_len q.lengths
count_is q = let k = ap length (lengths_is q) in omega arith

pub taken_up_is : (q : Queue) → taken_up (map length (frames q)) ≡ vec_len q.octets + overhead * vec_len q.lengths
taken_up_is q = let t = taken_is (vec_items q.lengths) in let k = ap taken_up (lengths_is q) in omega arith

-- 2 octets for each length, beside its own
pub record Low (q : Queue) : Type 0 where
  pub octets : vec_len q.octets ≤ port_octets
  pub lengths : vec_len q.lengths ≤ port_octets

pub low : (q : Queue) → Low q
low q = let t = taken_is (vec_items q.lengths) in record { octets = omega arith; lengths = omega arith }

pub ends_within : (q : Queue) (i : ℕ) → i < vec_len q.lengths → sum (take i (vec_items q.lengths)) + slice_index (vec_items q.lengths) i ≤ vec_len q.octets
ends_within q i h = let t = sum_by_more_le (λ m. m) (vec_items q.lengths) i 0 (omega arith) in omega arith

-- the memory of a queue has room for what fits a port
pub record Room (q : Queue) (n : ℕ) : Type 0 where
  pub place : vec_len q.lengths < most_frames
  pub octets : vec_len q.octets + n ≤ port_octets
  pub taken : taken_up (vec_items q.lengths) + (n + overhead) ≤ port_octets

pub has_room : (q : Queue) (n : ℕ) → 0 < n → packed (map length (frames q)) n ≡ true → Room q n
has_room q n some e =
    let h = leb-true (taken_up (map length (frames q)) + (n + overhead)) port_octets e in
    let k = ap taken_up (lengths_is q) in
    let t = taken_is (vec_items q.lengths) in
    let few = count_below (vec_items q.lengths) q.sized in
    record { place = omega arith; octets = omega arith; taken = omega arith }
