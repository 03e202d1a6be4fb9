-- The texts of one file more, or the first that isn't read.
use Rattle.std.proofs.Common.{◌≡◌, ◌++◌, ◌∷◌, ◌+◌, [], append-nil, drop, get_or, map, refl, rules, subst, sym, take}
use Rattle.rkyv_btree_typed.specs.TypeNames.{name_of}
use Rattle.rkyv_btree_typed.specs.TypeNames as term
use Rattle.btreearc_lines.specs.Grammar.{AreEach}
use Rattle.btreekv_types.specs.Commands.{FailsToRead, HasTexts}
use Rattle.btreekv_types.specs.Typed.{RefusesTypedStrict, items_by}
use Rattle.btreekv_types.specs.declared.fault.TypedFault.TheVariants.{Program}
use Rattle.btreekv_types.proofs.Changed.{all_files, each_more, lists_more, number_of, one_file, split_at}
use Rattle.btreekv_types.proofs.changing.push_others.Goals as goal

pub others-init : goal.others-init
others-init g c = λ key_to value_to keys values maps. ([], tt, sym (append-nil _))

pub others-preserved : goal.others-preserved
others-preserved g c = λ key_to value_to keys values maps.
    let d = c.index-others-index.result in
    let before = c.others.invariant key_to value_to keys values maps in
    let one = c.in-Ok.ensures.ok key_to value_to keys values maps in
    let has = HasTexts g.K.Portable.kind g.V.Portable.kind (name_of (term.map g.K.TypeName.term g.V.TypeName.term 5)) (items_by g.K.Item.IsValue (g.K.Item.spelling c.args.style) key_to) (items_by g.V.Item.IsValue (g.V.Item.spelling c.args.style) value_to) in
    let file : c.as_slice.result.now ≡ (get_or c.args.others.now c.others.index d).items = search rules in
    let read : has (get_or c.args.others.now c.others.index d).items one.0 = subst (λ b. has b one.0) file one.1 in (
      before.0 ++ one.0 ∷ [],
      subst (λ fs. AreEach has fs (before.0 ++ one.0 ∷ [])) (sym (one_file c.args.others.now c.others.index d c.others-test.true))
          (each_more has (take c.others.index (map (λ file. file.items) c.args.others.now)) before.0 (get_or c.args.others.now c.others.index d).items one.0 before.1 read),
      lists_more _ _ one.0 _ before.0 before.2 one.2,
    )

pub returns-in-Err-clause-err : goal.returns-in-Err-clause-err
returns-in-Err-clause-err g c = λ key_to value_to keys values maps.
    let d = c.index-others-index.result in
    let before = c.others.invariant key_to value_to keys values maps in
    let name = name_of (term.map g.K.TypeName.term g.V.TypeName.term 5) in
    let key_items = items_by g.K.Item.IsValue (g.K.Item.spelling c.args.style) key_to in
    let value_items = items_by g.V.Item.IsValue (g.V.Item.spelling c.args.style) value_to in
    let file : c.as_slice.result.now ≡ (get_or c.args.others.now c.others.index d).items = search rules in (
      c.others.index,
      refl,
      record {
        front = take c.others.index (map (λ file. file.items) c.args.others.now);
        file = (get_or c.args.others.now c.others.index d).items;
        back = drop (c.others.index + 1) (map (λ file. file.items) c.args.others.now);
        parts = split_at c.args.others.now c.others.index d c.others-test.true;
        number = number_of c.args.others.now c.others.index d c.others-test.true;
        lists = before.0;
        before = before.1;
        unread = subst (λ b. FailsToRead g.K.Portable.kind g.V.Portable.kind name key_items value_items (RefusesTypedStrict g.K.Portable.kind g.V.Portable.kind name) b (Program c.in-Err.fault)) file (c.in-Err.ensures.err key_to value_to keys values maps);
      },
    )

pub returns-clause-ok : goal.returns-clause-ok
returns-clause-ok g c = λ key_to value_to keys values maps.
    let before = c.others.invariant key_to value_to keys values maps in
    let has = HasTexts g.K.Portable.kind g.V.Portable.kind (name_of (term.map g.K.TypeName.term g.V.TypeName.term 5)) (items_by g.K.Item.IsValue (g.K.Item.spelling c.args.style) key_to) (items_by g.V.Item.IsValue (g.V.Item.spelling c.args.style) value_to) in
    (before.0, subst (λ fs. AreEach has fs before.0) (all_files c.args.others.now c.others.index c.others-test.false) before.1, before.2)
