-- What the parts that a lookup reads take of its budget.
use Rattle.std.proofs.Common.{◌≡◌, ℕ, ◌+◌, ◌<◌, List, ap, arith, subst, sym}
use Rattle.std.specs.declared.cmp.Ordering.{Ordering}
use Rattle.std.specs.Prelude.{Option, Some, None, Ok, min}
use Rattle.rkyv_btree_portable.specs.Kind.{Kind}
use Rattle.rkyv_btree_source.proofs.Lacking.{keys_more}
use Rattle.rkyv_btree_source.specs.Reads.{Lengths, NodeBytes, NodeTakes, Reads, Takes, IsLast, keys_len, part_len, reads_child, takes_down, takes_hit, takes_miss, takes_tree}
use Rattle.rkyv_btree_source.specs.declared.search.Hit.{Hit}
use Rattle.rkyv_btree_source.specs.declared.search.Step.{Step}
use Rattle.rkyv_btree_source.specs.declared.search.Step.TheVariants.{Ends, Nothing, Below}
use Rattle.rkyv_btree_source.specs.declared.search.Stop.{Stop}
use Rattle.rkyv_btree_source.specs.declared.search.Stop.TheVariants.{At, Before}
use Rattle.rkyv_btree_source.specs.mirror.Found.{next_of, NodeStepTakes, StepTakes, StopTakes}
use Rattle.rkyv_btree_unverified.specs.Steps.{key_place, value_place, ChildGives, NodeGives}
use Rattle.rkyv_btree_unverified.specs.declared.search.Next.TheVariants.{Hit as NextHit}

module _ (K V : Kind) (E : ℕ) (b : List ℕ) (KL VL : Lengths) (p i : ℕ) where
  -- none yet
  pub no_keys : (left : ℕ) → left ≡ left + keys_len K V E b KL VL p 0
  unfolding keys_len
  no_keys left = omega arith

  -- one more key
  pub one_more_key : (at old mid left : ℕ) → at ≡ key_place K V E (p, i) → old ≡ mid + keys_len K V E b KL VL p i → mid ≡ left + KL.outlying b at → old ≡ left + keys_len K V E b KL VL p (i + 1)
  one_more_key at old mid left same before here = omega (arith, before, here, keys_more K V E b KL VL p i, ap (KL.outlying b) same)

  -- a key and its value
  pub hit_total : (at place old mid more left : ℕ) → at ≡ key_place K V E (p, i) → place ≡ value_place K V E (p, i) → old ≡ mid + keys_len K V E b KL VL p i → mid ≡ more + KL.outlying b at → more ≡ left + VL.outlying b place
      → old ≡ left + (keys_len K V E b KL VL p (i + 1) + VL.outlying b (value_place K V E (p, i)))
  hit_total at place old mid more left same there before here last = let keys = one_more_key at old mid more same before here in omega (arith, keys, last, ap (VL.outlying b) there)

  -- a key before which the search stops, or all
  pub stop_total : (n at old mid left : ℕ) → i < n → at ≡ key_place K V E (p, i) → old ≡ mid + keys_len K V E b KL VL p i → mid ≡ left + KL.outlying b at → old ≡ left + keys_len K V E b KL VL p (min (i + 1) n)
  stop_total n at old mid left low same before here =
      let few : min (i + 1) n ≡ i + 1 = omega (arith, low) in
      let keys = one_more_key at old mid left same before here in
      omega (arith, keys, ap (keys_len K V E b KL VL p) few)

  pub end_total : (n old left : ℕ) → i ≡ n → old ≡ left + keys_len K V E b KL VL p i → old ≡ left + keys_len K V E b KL VL p (min (n + 1) n)
  end_total n old left all before =
      let few : min (n + 1) n ≡ i = omega (arith, all) in
      omega (arith, before, ap (keys_len K V E b KL VL p) few)

module _ (K V : Kind) (E : ℕ) (b : List ℕ) (KL VL : Lengths) (comparison : K.Value → Ordering) where
  -- where the search of the keys stops at an entry, the node's ends there
  module _ (hi p n old left : ℕ) (gives : NodeGives K V E b hi p (Ok n)) (stop : Stop) (h : StopTakes K V E b KL VL comparison p n old left stop) where
    pub hit_takes : (i place : ℕ) → stop ≡ At i place → (hit : Hit) → hit.index ≡ i → StepTakes K V E b KL VL comparison hi p old left (Ends hit)
    hit_takes i place is hit same =
        let there : StopTakes K V E b KL VL comparison p n old left (At i place) = subst (λ (s : Stop). StopTakes K V E b KL VL comparison p n old left s) is h in
        subst (λ (j : ℕ). (more : ℕ) × NodeTakes K V E b KL VL comparison hi p more (NextHit j) × (old ≡ left + more)) (sym same)
        (_, takes_hit gives there.0 there.1, there.2)

    -- where it stops before one, the child there follows
    module _ (i : ℕ) (is : stop ≡ Before i) where
      before : StopTakes K V E b KL VL comparison p n old left (Before i)
      before = subst (λ (s : Stop). StopTakes K V E b KL VL comparison p n old left s) is h

      pub miss_takes : (child : Option ℕ) → child ≡ None → ChildGives K V E b hi p i (Ok child) → StepTakes K V E b KL VL comparison hi p old left Nothing
      miss_takes child none c = let there : ChildGives K V E b hi p i (Ok None) = rw none at c in (_, takes_miss gives before.0 there, before.1)

      pub down_takes : (child : Option ℕ) (q : ℕ) → child ≡ Some q → ChildGives K V E b hi p i (Ok child) → StepTakes K V E b KL VL comparison hi p old left (Below q)
      down_takes child q some c = let there : ChildGives K V E b hi p i (Ok (Some q)) = rw some at c in (_, takes_down gives before.0 there, before.1)

  -- with the node's own bytes
  pub node_takes : (hi p old mid left len : ℕ) (step : Step) → old ≡ mid + len → len ≡ part_len K V E b KL VL (NodeBytes hi p) → StepTakes K V E b KL VL comparison hi p mid left step
      → NodeStepTakes K V E b KL VL comparison hi p old left step
  node_takes hi p old mid left len step read same h = let more = h.2 in (h.0, h.1, omega (arith, read, same, more))

  module _ (at all before hi p mid left : ℕ) (reads : Reads K V E b KL VL comparison at before (NodeBytes hi p)) (spent : all ≡ before + mid) (step : Step)
      (h : NodeStepTakes K V E b KL VL comparison hi p mid left step) where
    -- the search ends after the node
    pub last_takes : (last : Step) → step ≡ last → IsLast (next_of last) → (total : ℕ) × Takes K V E b KL VL comparison at total × (all ≡ left + total)
    last_takes last is ends =
        let there : NodeStepTakes K V E b KL VL comparison hi p mid left last = subst (λ (s : Step). NodeStepTakes K V E b KL VL comparison hi p mid left s) is h in
        let more = there.2 in
        (before + part_len K V E b KL VL (NodeBytes hi p) + there.0, takes_tree reads there.1 ends, omega (arith, spent, more))

    -- it goes on with a child
    pub child_reads : (q : ℕ) → step ≡ Below q → (now : ℕ) × Reads K V E b KL VL comparison at now (NodeBytes p q) × (all ≡ now + left)
    child_reads q is =
        let there : NodeStepTakes K V E b KL VL comparison hi p mid left (Below q) = subst (λ (s : Step). NodeStepTakes K V E b KL VL comparison hi p mid left s) is h in
        let more = there.2 in
        (before + part_len K V E b KL VL (NodeBytes hi p) + there.0, reads_child reads there.1, omega (arith, spent, more))
