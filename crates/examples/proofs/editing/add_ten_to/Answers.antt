-- The call adds 10 to what is found.
use Rattle.std.proofs.Common.{List, ℕ, refl, rules, subst}
use Rattle.std.specs.Ordering.{nat_cmp}
use Rattle.examples.specs.Editing.{AddsTo}
use Rattle.examples.proofs.Calling.{call_found_adds}
use Rattle.examples.proofs.Numbers.{numbers_stand}
use Rattle.examples.proofs.editing.add_ten_to.Goals as goal

pub at-map-requires : goal.at-map-requires
at-map-requires c = numbers_stand c.args.buf.now c.args.pos c.requires.0 c.requires.1

pub returns : goal.returns
returns c m is =
    let calls = rw (c.at-map.ensures.buffer, c.at-map.ensures.position) at (c.with_seal_by-called.ensures.calls nat_cmp (λ n b at. refl)) in
    let adds = call_found_adds _ (λ k s t r called. search rules) c.args.buf.now c.with_seal_by-called.new.self.buf.now c.args.pos c.args.key c.with_seal_by-called.result c.is_some.result m c.is_some.ensures is calls in
    subst (λ (x : List ℕ). AddsTo c.args.buf.now x c.args.pos m c.args.key c.is_some.result) (search rules) adds
