-- An archive has one list of entries, no refusal, and what a search of it finds.
use Rattle.std.proofs.Common.{◌≡◌, ℕ, List, IfSome, sym, subst}
use Rattle.std.specs.Ordering.{nat_cmp}
use Rattle.rkyv_btree_portable.specs.Scalars.{u32_kind}
use Rattle.rkyv_btree_portable.specs.laws.Scalars.{u32_laws}
use Rattle.rkyv_btree_format.proofs.Readings.{map_is_read}
use Rattle.rkyv_btree_walk.specs.Search.{IsHit}
use Rattle.btreearc_commands.specs.Opening.{root_of, found_in_archive, entries_read, IsArchive}
use Rattle.btreearc_commands.specs.Sessions.{KeysIncrease}
use Rattle.btreearc_commands.proofs.Ends.{known, number_cuts, entry_hit, listed, counted, absent, got, ranged}
use Rattle.btreearc_commands.proofs.laws.archives_show_their_entries.Goals as goal

read_entries : (archive : List ℕ) (entries : List (ℕ × ℕ)) → IsArchive archive entries → entries ≡ entries_read archive (root_of archive)
read_entries archive entries is = map_is_read u32_kind u32_kind 5 archive u32_laws.is_read u32_laws.is_read 0 (root_of archive) (root_of archive) is.0 entries is.1

pub returns-clause-listed : goal.returns-clause-listed
returns-clause-listed c archive entries is =
    listed archive entries (known c.one_list.ensures c.refused_is_no_archive.ensures archive entries is)

pub returns-clause-counted : goal.returns-clause-counted
returns-clause-counted c archive entries is =
    counted archive entries (known c.one_list.ensures c.refused_is_no_archive.ensures archive entries is)

pub returns-clause-absent : goal.returns-clause-absent
returns-clause-absent c archive entries is key none =
    let hit = (c.what_is_found_is_equal.ensures archive (root_of archive) (nat_cmp key)).hit in
    absent archive entries (known c.one_list.ensures c.refused_is_no_archive.ensures archive entries is) key none (subst (λ (xs : List (ℕ × ℕ)). IfSome (found_in_archive archive key) (IsHit (λ e. nat_cmp key e.0) xs)) (sym (read_entries archive entries is.1)) hit)

pub returns-clause-got : goal.returns-clause-got
returns-clause-got c archive entries is rise key value there =
    let read = read_entries archive entries is.1 in
    let only =
    c.increasing_keys_are_found.ensures.found archive (root_of archive) (nat_cmp key) (found_in_archive archive key) (number_cuts key) (subst KeysIncrease read rise)
    (c.what_is_found_is_equal.ensures archive (root_of archive) (nat_cmp key)) in
    got archive entries (known c.one_list.ensures c.refused_is_no_archive.ensures archive entries is) key value
    (only.alone (key, value) (subst (λ (xs : List (ℕ × ℕ)). IsHit (λ e. nat_cmp key e.0) xs (key, value)) read (entry_hit key value entries there)))

pub returns-clause-ranged : goal.returns-clause-ranged
returns-clause-ranged c archive entries is rise low high =
    ranged archive entries (known c.one_list.ensures c.refused_is_no_archive.ensures archive entries is) rise low high
