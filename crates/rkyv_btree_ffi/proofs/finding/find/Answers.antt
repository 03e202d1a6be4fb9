-- The bytes have one type.
use Rattle.std.proofs.Common.{◌≡◌, subst}
use Rattle.rkyv_btree_ffi.specs.Entries.{comparison_with}
use Rattle.rkyv_btree_ffi.specs.Finding.{ShowsLookupOf}
use Rattle.rkyv_btree_ffi.specs.declared.map_type.MapType.{MapType}
use Rattle.rkyv_btree_ffi.proofs.LookedUp.{found_is, as_opened}
use Rattle.rkyv_btree_ffi.proofs.finding.find.Goals as goal

pub returns-in-Err-clause-as_open : goal.returns-in-Err-clause-as_open
returns-in-Err-clause-as_open c = λ t is m archive.
    let same : c.in-Some.at ≡ t = cc in
    let shown = subst {A = MapType} (λ u. ShowsLookupOf u c.args.buf.now (comparison_with u c.args.query.now) c.lookup_at.result) same c.lookup_at.ensures in
    let error = rw c.in-Err.is at shown in
    absurd (error.1 m (archive.left, archive.means))

pub returns-in-Ok-clause-found : goal.returns-in-Ok-clause-found
returns-in-Ok-clause-found c = λ t is zero_code.
    let same : c.in-Some.at ≡ t = cc in
    let at_type = subst {A = MapType} (λ u. ShowsLookupOf u c.args.buf.now (comparison_with u c.args.query.now) c.lookup_at.result) same c.lookup_at.ensures in
    let shown = rw c.in-Ok.is at at_type in
    found_is t c.args.buf.now (comparison_with t c.args.query.now) c.write_found.result c.write_found.new.entry c.in-Ok.found c.write_found.ensures.some (λ none. (c.write_found.ensures.none none).0) shown zero_code

pub returns-in-Ok-clause-as_open : goal.returns-in-Ok-clause-as_open
returns-in-Ok-clause-as_open c = λ t is m archive.
    let same : c.in-Some.at ≡ t = cc in
    let at_type = subst {A = MapType} (λ u. ShowsLookupOf u c.args.buf.now (comparison_with u c.args.query.now) c.lookup_at.result) same c.lookup_at.ensures in
    let shown = rw c.in-Ok.is at at_type in
    as_opened t c.args.buf.now (comparison_with t c.args.query.now) c.write_found.result c.write_found.new.entry c.in-Ok.found c.write_found.ensures.some (λ none. (c.write_found.ensures.none none).0) shown m archive
