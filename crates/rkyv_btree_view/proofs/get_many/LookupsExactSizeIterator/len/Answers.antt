-- There are as many values as entries.
use Rattle.std.proofs.Common.{◌∙◌, sym}
use Rattle.std.proofs.lemmas.List.{length-map}
use Rattle.std.specs.Option.{option_map}
use Rattle.rkyv_btree_view.specs.ManyLeft.{entry_lookups_left}
use Rattle.rkyv_btree_view.proofs.get_many.LookupsExactSizeIterator.len.Goals as goal

pub returns-clause-value : goal.returns-clause-value
returns-clause-value g c =
    c.left.ensures ∙ sym (length-map (entry_lookups_left g.K.CompareWith.compared_at c.args.self.now.entries) (option_map (λ e. e.1)))
