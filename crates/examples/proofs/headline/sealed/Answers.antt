use Rattle.std.proofs.Common.{◌≡◌, rules, subst, List, ℕ, Some, None, true}
use Rattle.std.proofs.lemmas.Result.{err_from_is_err_and}
use Rattle.rkyv_btree.specs.Places.{FindsPlace, PutsEntry}
use Rattle.rkyv_btree.specs.EntryPlaces.{place_of}
use Rattle.rkyv_btree.specs.View.{view_value}
use Rattle.examples.specs.Headline.{IsSealed}
use Rattle.examples.proofs.Concluded.{none_accepted, none_equal, one_sealed}
use Rattle.examples.proofs.headline.sealed.Goals as goal

pub returns-in_err-access-clause-refused : goal.returns-in_err-access-clause-refused
returns-in_err-access-clause-refused g c =
    let p = err_from_is_err_and c.from_residual.result c.from_residual.ensures.1 in
    rw p.1 (none_accepted c.access.result _ c.in_err-access.was (λ m is. c.access.ensures.accepts.1 (m, is)))

pub returns-in-None-clause-one : goal.returns-in-None-clause-one
returns-in-None-clause-one g c m is =
    let finds : FindsPlace g.K.Portable.kind g.V.Portable.kind g.row.E c.args.buf.now c.args.pos (g.K.Portable.kind.order (view_value c.args.key)) None = rw (c.at.ensures.buffer, c.at.ensures.position) at (rw c.in-None.is at c.find-found.ensures.finds) in
    (search rules, none_equal g.K.Portable.kind g.V.Portable.kind g.row.E g.met.K.Portable.laws g.met.V.Portable.laws c.args.buf.now c.args.pos m is (g.K.Portable.kind.order (view_value c.args.key)) finds)

pub returns-in-Some-clause-one : goal.returns-in-Some-clause-one
returns-in-Some-clause-one g c m is =
    let finds : FindsPlace g.K.Portable.kind g.V.Portable.kind g.row.E c.args.buf.now c.args.pos (g.K.Portable.kind.order (view_value c.args.key)) (Some (place_of c.in-Some.place)) = rw (c.at.ensures.buffer, c.at.ensures.position) at (rw c.in-Some.is at c.find-found.ensures.finds) in
    let same : c.seal_at-seal.result.buf.now ≡ c.args.buf.now = search rules in
    let puts : PutsEntry g.K.Portable.kind g.V.Portable.kind g.row.E c.args.buf.now c.args.pos (place_of c.in-Some.place) (g.V.InPlace.in_place.own_bytes c.args.value) c.write.new.self.buf.now = rw (c.write.ensures.bytes, same) (rw (← c.seal_at-seal.ensures.buffer, same) at (c.seal_at-seal.ensures.puts (g.V.InPlace.in_place.own_bytes c.args.value) (g.met.V.InPlace.is_in_place.written c.args.value))) in
    subst (λ (x : List ℕ). IsSealed g.K.Portable.kind g.V.Portable.kind g.row.E c.args.buf.now c.args.pos (g.K.Portable.kind.order (view_value c.args.key)) (g.V.InPlace.in_place.own_bytes c.args.value) m x true) (search rules)
    (one_sealed g.K.Portable.kind g.V.Portable.kind g.row.E g.met.K.Portable.laws g.met.V.Portable.laws c.args.buf.now c.args.pos m is (g.K.Portable.kind.order (view_value c.args.key)) c.write.new.self.buf.now (g.V.InPlace.in_place.own_bytes c.args.value) (place_of c.in-Some.place) finds puts)
