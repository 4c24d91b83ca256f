-- The memory has room for what fits, so the octets follow their length.
use Rattle.std.proofs.Common.{◌≡◌, ◌+◌, ◌≤◌, rules, length, vec_items, vec_len, vec_capacity, ap, ◌∙◌, arith}
use Rattle.std.specs.List.{sum}
use Rattle.std.proofs.lemmas.Bool.{cond-true}
use Rattle.std.proofs.lemmas.List.Elements.{All-push, All-same}
use Rattle.std.proofs.lemmas.List.Sums.{sum_by_push}
use Rattle.lines.specs.Cuts.{IsLength}
use Rattle.lines.specs.Rules.{taken_up}
use Rattle.lines.specs.Sizes.{overhead}
use Rattle.lines.specs.Pieces.{cut_push}
use Rattle.lines.proofs.Queues.{has_room}
use Rattle.lines.proofs.queue.Queue.push.Goals as goal

pub push_reserved-requires : goal.push_reserved-requires
push_reserved-requires c =
    let room = has_room c.args.self.now (length c.args.frame.now) c.requires.some c.requires.room in
    omega arith

pub invariant_of-self : goal.invariant_of-self
invariant_of-self c =
    let q = c.args.self.now in
    let n = length c.args.frame.now in
    let ns = vec_items q.lengths in
    let room = has_room q n c.requires.some c.requires.room in
    let items = c.push_reserved.ensures.items in
    let total : sum (vec_items c.push_reserved.new.self) ≡ sum ns + n = ap sum items ∙ sum_by_push (λ m. m) ns n in
    let taken : taken_up (vec_items c.push_reserved.new.self) ≡ taken_up ns + (n + overhead) = ap taken_up items ∙ sum_by_push (λ m. m + overhead) ns n in
    let fits : vec_len q.octets + n ≤ vec_capacity q.octets = omega arith in
    let long = c.extend_from_slice.ensures.len ∙ cond-true _ _ _ (c.extend_from_slice.ensures.succeeds fits) in
    record {
      whole = omega arith;
      sized = All-same IsLength _ _ items (All-push IsLength _ _ q.sized (c.requires.some, c.requires.short));
      fitting = omega arith;
      places = omega arith;
      room = omega arith;
    }

pub returns : goal.returns
returns c =
    let room = has_room c.args.self.now (length c.args.frame.now) c.requires.some c.requires.room in
    search (rules, cut_push)
