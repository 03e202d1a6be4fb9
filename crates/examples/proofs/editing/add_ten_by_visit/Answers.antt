-- Each call adds 10, and so the visit does to all.
use Rattle.std.proofs.Common.{List, [], ℕ, map, refl, sym, append-nil, rules, subst}
use Rattle.examples.specs.Editing.{IsNumbers, plus_ten}
use Rattle.examples.proofs.Adding.{Adding, adding_start, added_all}
use Rattle.examples.proofs.Calling.{visit_adds}
use Rattle.examples.proofs.Numbers.{numbers_stand}
use Rattle.examples.proofs.editing.add_ten_by_visit.Goals as goal
use Rattle.rkyv_btree.specs.EntryPlaces.{entry_places}
use Rattle.rkyv_btree_base.specs.Scalars.{u32_kind}

pub at-map-requires : goal.at-map-requires
at-map-requires c = numbers_stand c.args.buf.now c.args.pos c.requires.0 c.requires.1

pub returns : goal.returns
returns c m is =
    let places = entry_places u32_kind u32_kind 5 c.args.buf.now c.args.pos in
    let start : Adding c.args.buf.now c.args.pos [] [] c.args.buf.now places = adding_start c.args.buf.now c.args.pos [] [] places (sym (append-nil places)) in
    let visits = rw (c.at-map.ensures.buffer, c.at-map.ensures.position) at c.visit_seal.ensures.visits.1 in
    let end = visit_adds c.args.buf.now c.args.pos _ (λ f g k s t r called. search rules) (λ f g k s t r called. search rules) _ _ _ _ _ _ visits start in
    let all = added_all c.args.buf.now c.visit_seal.new.self.buf.now c.args.pos [] m refl end is in
    subst (λ (x : List ℕ). IsNumbers x c.args.pos (map plus_ten m)) (search rules) all
