-- The seal is that of the entry's value.
use Rattle.std.proofs.Common.{◌≡◌, List, ℕ, rules, subst}
use Rattle.rkyv_btree_seal.specs.Places.{PutsEntry}
use Rattle.rkyv_btree_walk.specs.EntryPlaces.{place_of}
use Rattle.btreekv_types.proofs.overwriting.put_at.Goals as goal

pub returns-clause-puts : goal.returns-clause-puts
returns-clause-puts g c =
    let K = g.K.Portable.kind in
    let V = g.V.Portable.kind in
    let own : List ℕ = g.V.InPlace.in_place.own_bytes c.args.value in
    let same : c.seal_at-seal.result.buf.now ≡ c.args.archive.now = search rules in
    let puts : PutsEntry K V 5 c.args.archive.now c.args.pos (place_of c.args.place) own c.write.new.self.buf.now = rw (c.write.ensures.bytes, same) (rw (← c.seal_at-seal.ensures.buffer, same) at (c.seal_at-seal.ensures.puts own (g.met.V.InPlace.is_in_place.written c.args.value))) in
    subst (λ (made : List ℕ). PutsEntry K V 5 c.args.archive.now c.args.pos (place_of c.args.place) own made) (search rules) puts
