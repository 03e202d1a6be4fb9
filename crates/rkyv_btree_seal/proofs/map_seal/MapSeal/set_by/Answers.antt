-- What is found is an entry, whose value is written.
use Rattle.std.proofs.Common.{refl}
use Rattle.std.specs.Prelude.{None, Some, true, false}
use Rattle.rkyv_btree_seal.specs.Places.{SetsFound}
use Rattle.rkyv_btree_seal.proofs.Setting.{sets_found, sets_writes, sets_sorted}
use Rattle.rkyv_btree_walk.specs.EntryPlaces.{place_of}
use Rattle.rkyv_btree_view.proofs.LookedUp.{natives_agree}
use Rattle.rkyv_btree_seal.proofs.map_seal.MapSeal.set_by.Goals as goal

pub set_at-requires : goal.set_at-requires
set_at-requires g c = rw c.in-Some.is at c.find_by.ensures.entry

pub returns-in-None-clause-set : goal.returns-in-None-clause-set
returns-in-None-clause-set g c f p =
    let K = g.K.Portable.kind in let V = g.V.Portable.kind in let E = g.M.ArchivedMap.E in
    let b = c.args.self.now.buf.now in
    let at = c.args.self.now.pos in
    let comparison = f c.args.key in
    let own = g.V.InPlace.in_place.own_bytes c.args.value in
    let sets : SetsFound K V E b at comparison own c.args.self.now.buf.now false = record { found = None; finds = rw c.in-None.is at (c.find_by.ensures.finds f p); has_found = refl; puts = refl } in
    record {
      sorted = λ rises. sets_sorted K V E b at comparison own c.args.self.now.buf.now false sets rises (g.met.K.CompareWith.compares.compared c.args.key) (g.met.K.CompareWith.compares.cuts c.args.key) (natives_agree g.met.K.CompareWith.compares f p c.args.key b);
      found = sets_found K V E b at comparison own c.args.self.now.buf.now false sets;
      writes = sets_writes K V E b at comparison own c.args.self.now.buf.now false sets;
      sets = sets;
    }

pub returns-in-Some-clause-set : goal.returns-in-Some-clause-set
returns-in-Some-clause-set g c f p =
    let K = g.K.Portable.kind in let V = g.V.Portable.kind in let E = g.M.ArchivedMap.E in
    let b = c.args.self.now.buf.now in
    let at = c.args.self.now.pos in
    let comparison = f c.args.key in
    let own = g.V.InPlace.in_place.own_bytes c.args.value in
    let sets : SetsFound K V E b at comparison own c.set_at.new.self.buf.now true = record { found = Some (place_of c.in-Some.place); finds = rw c.in-Some.is at (c.find_by.ensures.finds f p); has_found = refl; puts = c.set_at.ensures.puts } in
    record {
      sorted = λ rises. sets_sorted K V E b at comparison own c.set_at.new.self.buf.now true sets rises (g.met.K.CompareWith.compares.compared c.args.key) (g.met.K.CompareWith.compares.cuts c.args.key) (natives_agree g.met.K.CompareWith.compares f p c.args.key b);
      found = sets_found K V E b at comparison own c.set_at.new.self.buf.now true sets;
      writes = sets_writes K V E b at comparison own c.set_at.new.self.buf.now true sets;
      sets = sets;
    }
