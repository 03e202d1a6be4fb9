-- The value of the entry at the place that is found is written over.
use Rattle.std.proofs.Common.{◌≡◌, ◌∙◌, List, ℕ, Some, None, rules, subst}
use Rattle.rkyv_btree_format.specs.OwnBytes.{IsArchiveOf, own_at}
use Rattle.rkyv_btree_format.specs.Read.{read_map}
use Rattle.rkyv_btree_seal.specs.Places.{FindsPlace, PutsEntry}
use Rattle.rkyv_btree_verify.specs.Map.{map_kind}
use Rattle.rkyv_btree_walk.specs.EntryPlaces.{place_of}
use Rattle.btreekv_types.specs.Overwriting.{PutsOver}
use Rattle.btreekv_types.proofs.Overwritten.{has_none, puts_over}
use Rattle.btreekv_types.proofs.overwriting.write_over.Goals as goal

pub returns-in_default-clause-none : goal.returns-in_default-clause-none
returns-in_default-clause-none g c compared agree =
    let K = g.K.Portable.kind in
    let V = g.V.Portable.kind in
    let file : List ℕ = c.args.archive.now in
    let opened : IsArchiveOf (map_kind K V 5) file (read_map K V 5 file (own_at (map_kind K V 5) file)) = rw (c.in-Ok.ensures.buffer, c.in-Ok.ensures.position) at c.in-Ok.ensures.input.1 in
    let finds : FindsPlace K V 5 file (own_at (map_kind K V 5) file) (compared c.args.key.now) None = rw (c.at.ensures.buffer, c.at.ensures.position, c.in-Ok.ensures.position) at (c.in_default.ensures.finds compared (λ q w r post.
    let is : r ≡ g.K.Item.order (g.K.Item.native_value q.now) (g.K.Item.value_at w.buf.now w.pos) = search rules in
    is ∙ agree q.now w.buf.now w.pos)) in
    has_none K V file (compared c.args.key.now) opened finds

pub returns-clause-some : goal.returns-clause-some
returns-clause-some g c compared agree =
    let K = g.K.Portable.kind in
    let V = g.V.Portable.kind in
    let file : List ℕ = c.args.archive.now in
    let own : List ℕ = g.V.InPlace.in_place.own_bytes c.args.value in
    let is_own = g.met.V.InPlace.is_in_place.written c.args.value in
    let opened : IsArchiveOf (map_kind K V 5) file (read_map K V 5 file (own_at (map_kind K V 5) file)) = rw (c.in-Ok.ensures.buffer, c.in-Ok.ensures.position) at c.in-Ok.ensures.input.1 in
    let finds : FindsPlace K V 5 file (own_at (map_kind K V 5) file) (compared c.args.key.now) (Some (place_of c.in-Some.place)) = rw (c.at.ensures.buffer, c.at.ensures.position, c.in-Ok.ensures.position) at (c.in-Some.ensures.finds compared (λ q w r post.
    let is : r ≡ g.K.Item.order (g.K.Item.native_value q.now) (g.K.Item.value_at w.buf.now w.pos) = search rules in
    is ∙ agree q.now w.buf.now w.pos)) in
    let puts : PutsEntry K V 5 file (own_at (map_kind K V 5) file) (place_of c.in-Some.place) own c.put_at.new.archive = rw c.in-Ok.ensures.position at (subst (λ (b : List ℕ). PutsEntry K V 5 b c.in-Ok.map.pos (place_of c.in-Some.place) own c.put_at.new.archive) {y = file} (search rules) c.put_at.ensures.puts) in
    let writes = c.writes_put_values.ensures g.met.V.InPlace.is_in_place.alone in
    let over : PutsOver K V file (compared c.args.key.now) own c.put_at.result.start c.put_at.new.archive = rw c.put_at.ensures.start (puts_over K V file (compared c.args.key.now) opened writes own c.put_at.new.archive (place_of c.in-Some.place) is_own.size finds puts) in
    over
