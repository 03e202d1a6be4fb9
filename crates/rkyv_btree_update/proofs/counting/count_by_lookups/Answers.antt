-- Each change counts by whether the map has its key.
use Rattle.std.proofs.Common.{◌≡◌, ◌<◌, List, [], ◌∷◌, length, refl, sym, ap, subst, ◌∙◌, arith, rules}
use Rattle.std.specs.BTreeMap.{is_at}
use Rattle.std.specs.Map.{lookup}
use Rattle.std.specs.Prelude.{is_some}
use Rattle.rkyv_btree_update.proofs.Counted.{CountsOn, count_shown, ends, goes_on, has_meant, one_more, starts}
use Rattle.rkyv_btree_update.proofs.Lent.{shown_length}
use Rattle.rkyv_btree_update.proofs.Meant.{read_meant, shown_increase, shown_meant}
use Rattle.rkyv_btree_update.specs.Natives.{shown_of}
use Rattle.rkyv_btree_update.specs.Updated.{change_meant, changes_meant}
use Rattle.rkyv_btree_update.specs.mirror.Counted.{count_after}
use Rattle.rkyv_btree_update.proofs.counting.count_by_lookups.Goals as goal

empty : {X : Type 0} (xs : List X) → length xs ≡ 0 → xs ≡ []
empty [] none = refl
empty (x ∷ xs) none = absurd (omega (arith, none))

pub loop-item-init : goal.loop-item-init
loop-item-init g c =
    let K = g.K.Portable.kind in
    let V = g.V.Portable.kind in
    let E = g.M.ArchivedMap.E in
    let keys = c.is_lent.ensures in
    let values = c.is_lent-2.ensures in
    let view = c.args.old.view in
    let shown = changes_meant g.KU.CompareArchived.shown g.VU.CompareArchived.shown in
    let entries = shown_of K V E g.KU.CompareArchived.lent g.VU.CompareArchived.lent view in
    let increase = shown_increase K V E g.KU.CompareArchived.lent g.VU.CompareArchived.lent keys.meant values.meant (read_meant keys) (read_meant values) view.buf.now g.KU.CompareArchived.order keys.alike view.pos c.args.old.increasing in
    let many = shown_length K V E g.KU.CompareArchived.lent g.VU.CompareArchived.lent keys.of_value values.of_value keys.reads values.reads view.buf.now view.pos in
    let len : length entries ≡ c.len-len.result = many ∙ sym c.len-len.ensures.entries in
    record {
      counts =
          subst (λ n. CountsOn g.KU.CompareArchived.order entries (shown c.args.changes.now) (shown c.iter-rest.result.rest.now) n) len (
          subst (λ rest. CountsOn g.KU.CompareArchived.order entries (shown c.args.changes.now) (shown rest) (length entries)) (sym c.iter-rest.ensures.rest) (starts keys.total entries (shown c.args.changes.now) increase c.requires));
      few = omega (arith, ap length c.iter-rest.ensures.rest, c.len-len.ensures.small);
    }

pub len_after-len-requires : goal.len_after-len-requires
len_after-len-requires g c =
    let many : length c.args.changes.now < 18446744073709551616 = search rules in
    omega (arith, c.loop-item.invariant.few, many)

pub loop-item-preserved : goal.loop-item-preserved
loop-item-preserved g c =
    let K = g.K.Portable.kind in
    let V = g.V.Portable.kind in
    let E = g.M.ArchivedMap.E in
    let keys = c.is_lent.ensures in
    let values = c.is_lent-2.ensures in
    let view = c.args.old.view in
    let key_shown = g.KU.CompareArchived.shown in
    let value_shown = g.VU.CompareArchived.shown in
    let shown = changes_meant key_shown value_shown in
    let entries = shown_of K V E g.KU.CompareArchived.lent g.VU.CompareArchived.lent view in
    let item = c.in-Some.item.now in
    let n = c.loop-item.len in
    let has = c.has_key.ensures keys
    ∙ sym (ap (λ m. is_some (lookup (is_at (K.order (keys.meant (key_shown item.0)))) m)) (shown_meant K V E g.KU.CompareArchived.lent g.VU.CompareArchived.lent keys.meant values.meant (read_meant keys) (read_meant values) view.buf.now view.pos))
    ∙ has_meant keys.meant values.meant g.KU.CompareArchived.order K.order keys.alike (key_shown item.0) entries in
    let counted = sym (ap (λ b. count_after b (change_meant value_shown item.1) n) has) ∙ count_shown value_shown c.has_key.result item.1 n ∙ sym c.len_after-len.ensures in
    record {
      counts =
          subst (CountsOn g.KU.CompareArchived.order entries (shown c.args.changes.now) (shown c.next.new.self.rest.now)) counted
          (goes_on keys.total entries (shown c.args.changes.now) (key_shown item.0, change_meant value_shown item.1) (shown c.next.new.self.rest.now) n
          (subst (λ rest. CountsOn g.KU.CompareArchived.order entries (shown c.args.changes.now) (shown rest) n) c.in-Some.ensures.steps c.loop-item.invariant.counts));
      few = omega (arith, c.loop-item.invariant.few, ap length c.in-Some.ensures.steps, c.len_after-len.ensures, one_more c.has_key.result item.1 n);
    }

pub returns-then-len : goal.returns-then-len
returns-then-len g c =
    let shown = changes_meant g.KU.CompareArchived.shown g.VU.CompareArchived.shown in
    let entries = shown_of g.K.Portable.kind g.V.Portable.kind g.M.ArchivedMap.E g.KU.CompareArchived.lent g.VU.CompareArchived.lent c.args.old.view in
    let counts = subst (λ rest. CountsOn g.KU.CompareArchived.order entries (shown c.args.changes.now) (shown rest) c.loop-item.len) (empty _ c.in_default.ensures.steps.0) c.loop-item.invariant.counts in
    omega (arith, ends c.is_lent.ensures.total entries (shown c.args.changes.now) c.loop-item.len counts, c.if-len.true)

pub returns : goal.returns
returns g c =
    let shown = changes_meant g.KU.CompareArchived.shown g.VU.CompareArchived.shown in
    let entries = shown_of g.K.Portable.kind g.V.Portable.kind g.M.ArchivedMap.E g.KU.CompareArchived.lent g.VU.CompareArchived.lent c.args.old.view in
    let counts = subst (λ rest. CountsOn g.KU.CompareArchived.order entries (shown c.args.changes.now) (shown rest) c.loop-item.len) (empty _ c.in_default.ensures.steps.0) c.loop-item.invariant.counts in
    (ends c.is_lent.ensures.total entries (shown c.args.changes.now) c.loop-item.len counts, omega (arith, c.if-len.false))
