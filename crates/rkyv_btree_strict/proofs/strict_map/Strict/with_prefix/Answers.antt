-- Keys that increase are ordered for the prefix.
use Rattle.std.proofs.Common.{◌∙◌, rules}
use Rattle.std.proofs.lemmas.List.Elements.{filter_agree}
use Rattle.rkyv_btree_portable.specs.Text.{text_kind}
use Rattle.rkyv_btree_view.specs.View.{entries_of}
use Rattle.rkyv_btree_strict.specs.Prefix.{prefix_cmp}
use Rattle.rkyv_btree_strict.proofs.PrefixOrder.{equal_begins, ordered}
use Rattle.rkyv_btree_strict.proofs.strict_map.Strict.with_prefix.Goals as goal

pub returns-clause-within : goal.returns-clause-within
returns-clause-within g c =
    let m = entries_of text_kind g.V.Portable.kind g.M.ArchivedMap.E c.args.self.view in
    let order = ordered c.args.prefix.now m c.args.self.increasing in
    c.range_with.ensures.within (λ s k. prefix_cmp s.now k) (λ q w r ran. search rules) order order ∙ filter_agree _ _ (λ e. equal_begins c.args.prefix.now e.0) m
