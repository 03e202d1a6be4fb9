-- The last place of the leaf is the last of those at hand.
use Rattle.std.proofs.Common.{◌+◌, ◌∷◌, ◌++◌, ◌∙◌, map, sym, ap}
use Rattle.std.proofs.lemmas.List.{length-map, map-append}
use Rattle.rkyv_btree_format.specs.Read.{entry_at}
use Rattle.rkyv_btree_view.proofs.Remaining.{remaining_is}
use Rattle.rkyv_btree_walk.specs.EntryPlaces.{place_of}
use Rattle.rkyv_btree_view.proofs.iter.Iter.last_at_hand.Goals as goal

pub returns-clause-last : goal.returns-clause-last
returns-clause-last g c =
    let K = g.K.Portable.kind in
    let V = g.V.Portable.kind in
    let E = g.M.ArchivedMap.E in
    let self = c.args.self.now in
    let b = self.buf.now in
    let means = entry_at K V E b in
    let (before, later, is, count) = c.in_ok-place.ensures.last in (
      map means before,
      map means later,
      remaining_is K V E b self.pos self.walk self.walks self.ends ∙ ap (map means) is ∙ map-append means before (place_of c.in_ok-place.place ∷ later)
          ∙ ap (λ e. map means before ++ e ∷ map means later) (sym c.entry.ensures),
      count ∙ ap (λ n. n + 1) (sym (length-map before means)),
    )
