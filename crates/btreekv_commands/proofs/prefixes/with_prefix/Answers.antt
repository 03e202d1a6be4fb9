-- Where keys increase, they are ordered for the prefix.
use Rattle.std.proofs.Common.{◌∙◌, rules}
use Rattle.std.proofs.lemmas.List.Elements.{filter_agree}
use Rattle.rkyv_btree_portable.specs.Text.{text_kind}
use Rattle.rkyv_btree_view.specs.View.{entries_of}
use Rattle.rkyv_btree_strict.proofs.PrefixOrder.{equal_begins, ordered}
use Rattle.rkyv_btree_strict.specs.Prefix.{prefix_cmp}
use Rattle.btreekv_commands.proofs.prefixes.with_prefix.Goals as goal

pub returns-clause-has_prefix : goal.returns-clause-has_prefix
returns-clause-has_prefix c =
    let m = entries_of text_kind text_kind 5 c.args.map in
    record {
      run = c.range_with.ensures.range.run;
      all = λ increase.
          let order = ordered c.args.prefix.now m increase in
          c.range_with.ensures.within (λ s k. prefix_cmp s.now k) (λ q w r ran. search rules) order order ∙ filter_agree _ _ (λ e. equal_begins c.args.prefix.now e.0) m;
    }
