use Rattle.std.proofs.Common.{◌≡◌, ◌+◌, ◌∙◌, List, [], ◌∷◌, ◌++◌, Option, Some, None, length, sym, subst, ap, arith}
use Rattle.std.proofs.iter.Next.{Yields-more}
use Rattle.std.proofs.lemmas.List.{length_push}
use Rattle.std.specs.Iterator.{Yields}
use Rattle.std.specs.Option.{option_copied}
use Rattle.rkyv_btree_archive.specs.mirror.Source.{Gives, key_before}
use Rattle.rkyv_btree_archive.proofs.Numbers.{no_less}
use Rattle.rkyv_btree_archive.proofs.Sources.{key_snoc}
use Rattle.rkyv_btree_archive.proofs.items.take_items.Goals as goal

pub loop-source-preserved : goal.loop-source-preserved
loop-source-preserved g c =
    let steps = (Gives g.I.Iterator.next_gives g.L.Look.passes g.L.Look.stops) in
    let before = c.loop-source.invariant in
    let more : length c.push.new.values.items ≡ length c.loop-source.items.items + 1 = ap length c.push.ensures.items ∙ length_push c.loop-source.items.items c.in-Some.item in
    let on = c.in-Some.ensures.goes.on before.ends in
    let items = c.loop-source.items.items in
    let key : option_copied c.last_key.result ≡ key_before (option_copied c.args.before) items =
    c.last_key.ensures ∙ ap (λ (xs : List (g.row.B.Denot × g.row.C.Denot)). key_before (option_copied c.args.before) xs) c.deref.ensures.value in
    let step = subst (λ (k : Option g.row.B.Denot). steps (c.loop-source.source, k) (Some c.in-Some.item) (c.next.new.self, Some c.in-Some.item.0)) key c.in-Some.ensures.steps in
    let all = Yields-more steps (c.args.source.now, option_copied c.args.before) items (c.loop-source.source, key_before (option_copied c.args.before) items) c.in-Some.item (c.next.new.self, Some c.in-Some.item.0) before.given step in
    record {
      given = subst (λ zs. Yields steps (c.args.source.now, option_copied c.args.before) zs (c.next.new.self, key_before (option_copied c.args.before) zs)) (sym c.push.ensures.items)
          (subst (λ (k : Option g.row.B.Denot). Yields steps (c.args.source.now, option_copied c.args.before) (items ++ c.in-Some.item ∷ []) (c.next.new.self, k)) (sym (key_snoc (option_copied c.args.before) items c.in-Some.item)) all);
      can = on.0;
      ends = on.1;
      left = omega (arith, more, before.left, on.2);
      few = omega (arith, more);
      room = no_less _ _ _ before.room c.push.ensures.capacity;
      capacity = no_less _ _ _ before.capacity c.push.ensures.capacity;
    }

pub returns-in-None-clause-few : goal.returns-in-None-clause-few
returns-in-None-clause-few g c =
    let steps = (Gives g.I.Iterator.next_gives g.L.Look.passes g.L.Look.stops) in
    let items = c.loop-source.items.items in
    let key : option_copied c.last_key.result ≡ key_before (option_copied c.args.before) items =
    c.last_key.ensures ∙ ap (λ (xs : List (g.row.B.Denot × g.row.C.Denot)). key_before (option_copied c.args.before) xs) c.deref.ensures.value in
    λ short. (
      (c.loop-source.source, key_before (option_copied c.args.before) items),
      c.loop-source.invariant.given,
      subst (λ (k : Option g.row.B.Denot). steps (c.loop-source.source, k) None (c.next.new.self, None)) key c.in-None.ensures.steps,
    )
