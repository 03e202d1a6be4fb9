-- Entries whose keys increase are the map's that is made of them.
use Rattle.std.proofs.Common.{◌≡◌, List, map, Result, Ok, Err, IfOk, ap, ◌∙◌, sym}
use Rattle.std.specs.Map.{keys_of}
use Rattle.std.specs.Cmp.{IsTotalOrder}
use Rattle.std.specs.Result.{result_map_both}
use Rattle.std.specs.declared.cmp.Ordering.{Ordering}
use Rattle.rkyv_btree_writer.specs.declared.fault.EntryFault.{EntryFault}
use Rattle.rkyv_btree_format.specs.Increasing.{Increasing}
use Rattle.rkyv_btree_convert.proofs.RoundTrip.{ascending_stay}
use Rattle.rkyv_btree_convert.specs.Deserializing.{all}
use Rattle.rkyv_btree_convert.specs.Maps.{last_wins, map_given, model_both}

module _ {A B : Type 0} {order : A → A → Ordering} (total : IsTotalOrder order) (given : List (Result (A × B) EntryFault)) (entries : List (A × B)) (decoded : all given ≡ Ok entries) (rises : Increasing order entries) where
  given_sorted : map_given order given ≡ Ok entries
  given_sorted = ap (result_map_both (last_wins order) (λ fault. fault)) decoded ∙ ap Ok (ascending_stay total entries rises)

  pub map_sorted : (m : List (A × B)) → map_given order given ≡ Ok m → m ≡ entries
  map_sorted m made = let is = given_sorted in cc (made, is)

  pub set_sorted : (ks : List A) → result_map_both keys_of (λ fault. fault) (map_given order given) ≡ Ok ks → ks ≡ keys_of entries
  set_sorted ks made = let is = ap (result_map_both keys_of (λ fault. fault)) given_sorted in cc (made, is)

-- so of whatever map or set was made
pub map_is_sorted : {X A B F : Type 0} {order : A → A → Ordering} (total : IsTotalOrder order) (given : List (Result (A × B) EntryFault)) (model : X → List (A × B)) (result : Result X F) → IfOk result (λ m. map_given order given ≡ Ok (model m))
    → IfOk result (λ m. (entries : List (A × B)) → all given ≡ Ok entries → Increasing order entries → model m ≡ entries)
map_is_sorted total given model (Ok m) made = λ entries decoded rises. map_sorted total given entries decoded rises (model m) made
map_is_sorted total given model (Err e) made = tt

pub set_is_sorted : {X A B F : Type 0} {order : A → A → Ordering} (total : IsTotalOrder order) (given : List (Result (A × B) EntryFault)) (model : X → List A) (result : Result X F) → IfOk result (λ m. result_map_both keys_of (λ fault. fault) (map_given order given) ≡ Ok (model m))
    → IfOk result (λ m. (entries : List (A × B)) → all given ≡ Ok entries → Increasing order entries → model m ≡ keys_of entries)
set_is_sorted total given model (Ok m) made = λ entries decoded rises. set_sorted total given entries decoded rises (model m) made
set_is_sorted total given model (Err e) made = tt
