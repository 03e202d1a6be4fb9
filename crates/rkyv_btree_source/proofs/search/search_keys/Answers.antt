-- Each key is compared where it was brought to.
use Rattle.std.proofs.Common.{◌≡◌, ◌∙◌, ◌+◌, ◌≤◌, arith, length, sym, below_more, ap, refl, IsTrue}
use Rattle.std.specs.declared.cmp.Ordering.TheVariants.{Less, Equal, Greater}
use Rattle.rkyv_btree_format.proofs.Sizes.{room_of}
use Rattle.rkyv_btree_source.proofs.Faults.{gives_there, key_fault, value_fault}
use Rattle.rkyv_btree_source.proofs.Inside.{key_inside, value_inside}
use Rattle.rkyv_btree_unverified.specs.Steps.{key_place, equal_key, stops}
use Rattle.rkyv_btree_portable.specs.Views.{stands}
use Rattle.std.proofs.Common.{subst}
use Rattle.rkyv_btree_walk.proofs.Searches.{past_is, equal_is, less_is}
use Rattle.rkyv_btree_source.proofs.Fitting.{each_more, fits_at}
use Rattle.rkyv_btree_source.proofs.Lacking.{key_lacks, lacks_in, value_lacks}
use Rattle.rkyv_btree_source.proofs.Spent.{spent_more, spent_rest}
use Rattle.rkyv_btree_source.proofs.Taking.{end_total, hit_total, no_keys, one_more_key, stop_total}
use Rattle.rkyv_btree_source.specs.Reads.{NodeReads}
use Rattle.rkyv_btree_source.proofs.Knowing.{of_same}
use Rattle.rkyv_btree_source.proofs.search.search_keys.Goals as goal

pub fetch_part-requires-clause-fitting : goal.fetch_part-requires-clause-fitting
fetch_part-requires-clause-fitting g c = (room_of _ _ _ g.met.K.Portable.laws g.met.V.Portable.laws c.requires.fitting).key

pub fetch_part-requires-clause-inside : goal.fetch_part-requires-clause-inside
fetch_part-requires-clause-inside g c =
    let there = key_inside g.K.Portable.kind g.V.Portable.kind g.M.ArchivedMap.E g.met.K.Portable.laws g.met.V.Portable.laws c.requires.fitting c.loop-i.i (omega arith) in
    omega (arith, there, c.key_at.ensures, c.requires.inside)

pub fetch_part-requires-then-compared-2-clause-fitting : goal.fetch_part-requires-then-compared-2-clause-fitting
fetch_part-requires-then-compared-2-clause-fitting g c = (room_of _ _ _ g.met.K.Portable.laws g.met.V.Portable.laws c.requires.fitting).value

pub fetch_part-requires-then-compared-2-clause-inside : goal.fetch_part-requires-then-compared-2-clause-inside
fetch_part-requires-then-compared-2-clause-inside g c =
    let there = value_inside g.K.Portable.kind g.V.Portable.kind g.M.ArchivedMap.E g.met.K.Portable.laws g.met.V.Portable.laws c.requires.fitting c.loop-i.i (omega arith) in
    omega (arith, there, c.value_at.ensures, c.requires.inside)

pub returns-in-Err-clause-gives : goal.returns-in-Err-clause-gives
returns-in-Err-clause-gives g c b e f p =
    key_fault g.K.Portable.kind g.V.Portable.kind g.M.ArchivedMap.E b (f c.args.key.now) g.K.CheckBytes.Refuses g.V.CheckBytes.Refuses c.args.node c.args.count c.loop-i.i
    (record { within = omega arith; before = c.loop-i.invariant.before b e f p }) c.in-Err.fault (c.args.node + c.key_at.result)
    (ap (λ x. c.args.node + x) c.key_at.ensures) (c.in-Err.ensures.brings b (of_same b c.loop-i.invariant.same e))

pub loop-i-init : goal.loop-i-init
loop-i-init g c =
    record {
      before = λ b e f p k low. absurd (omega (arith, low));
      same = refl;
      left = omega arith;
      spent = omega arith;
      takes = λ b e. no_keys g.K.Portable.kind g.V.Portable.kind g.M.ArchivedMap.E b g.K.Fetch.lengths g.V.Fetch.lengths c.args.node 0 c.args.reader.now.left;
      fits = λ b e k low. absurd (omega (arith, low));
    }

pub loop-i-preserved : goal.loop-i-preserved
loop-i-preserved g c =
    record {
      before = λ b e f p.
          below_more _ _ (c.loop-i.invariant.before b e f p)
          (gives_there g.K.Portable.kind g.V.Portable.kind g.M.ArchivedMap.E b (f c.args.key.now) Greater _ c.args.node c.loop-i.i (c.args.node + c.key_at.result) c.fetch_part.new.room c.in-Ok.place
          (ap (λ x. c.args.node + x) c.key_at.ensures) (c.in-Ok.ensures.brings b (of_same b c.loop-i.invariant.same e)) (p c.args.key.now c.fetch_part.new.room c.in-Ok.place)
          (past_is _ (sym (ap (λ r. r.past) c.compare_at-compared.ensures) ∙ c.if-compared.true)));
      same = c.in-Ok.ensures.same ∙ c.loop-i.invariant.same;
      left = omega (arith, c.in-Ok.ensures.left, c.loop-i.invariant.left);
      spent = spent_more _ _ _ (c.args.node + length c.args.bytes.now) c.loop-i.i (c.loop-i.i + 1) c.loop-i.invariant.spent c.in-Ok.ensures.spent (omega arith);
      takes = λ b e.
          one_more_key g.K.Portable.kind g.V.Portable.kind g.M.ArchivedMap.E b g.K.Fetch.lengths g.V.Fetch.lengths c.args.node c.loop-i.i (c.args.node + c.key_at.result) _ _ _
          (ap (λ x. c.args.node + x) c.key_at.ensures) (c.loop-i.invariant.takes b e) (c.in-Ok.ensures.takes b (of_same b c.loop-i.invariant.same e));
      fits = λ b e.
          each_more (λ k. g.K.Fetch.lengths.room b (key_place g.K.Portable.kind g.V.Portable.kind g.M.ArchivedMap.E (c.args.node, k)) ≤ length c.args.room.now) c.loop-i.i (c.loop-i.invariant.fits b e)
          (fits_at b g.K.Fetch.lengths (ap (λ x. c.args.node + x) c.key_at.ensures) (omega arith) (c.in-Ok.ensures.fits b (of_same b c.loop-i.invariant.same e)));
    }

pub returns-in-Ok-fetch_part-clause-gives : goal.returns-in-Ok-fetch_part-clause-gives
returns-in-Ok-fetch_part-clause-gives g c b e f p =
    equal_key (record { within = omega arith; before = c.loop-i.invariant.before b e f p })
    (gives_there g.K.Portable.kind g.V.Portable.kind g.M.ArchivedMap.E b (f c.args.key.now) Equal _ c.args.node c.loop-i.i (c.args.node + c.key_at.result) c.fetch_part.new.room c.in-Ok.place
    (ap (λ x. c.args.node + x) c.key_at.ensures) (c.in-Ok.ensures.brings b (of_same b c.loop-i.invariant.same e)) (p c.args.key.now c.fetch_part.new.room c.in-Ok.place)
    (equal_is _ (sym (ap (λ r. r.equal) c.compare_at-compared.ensures) ∙ c.if-compared-2.true)))
    (subst (λ x. IsTrue (stands g.V.Portable.kind b x)) (ap (λ x. c.args.node + x) c.value_at.ensures) (c.in-Ok-fetch_part.ensures.brings b (of_same b c.in-Ok.ensures.same (of_same b c.loop-i.invariant.same e))).0)

pub returns-in-Err-fetch_part-clause-gives : goal.returns-in-Err-fetch_part-clause-gives
returns-in-Err-fetch_part-clause-gives g c b e f p =
    value_fault g.K.Portable.kind g.V.Portable.kind g.M.ArchivedMap.E b (f c.args.key.now) g.K.CheckBytes.Refuses g.V.CheckBytes.Refuses c.args.node c.args.count c.loop-i.i
    (record { within = omega arith; before = c.loop-i.invariant.before b e f p }) c.in-Err-fetch_part.fault (c.args.node + c.value_at.result)
    (ap (λ x. c.args.node + x) c.value_at.ensures)
    (gives_there g.K.Portable.kind g.V.Portable.kind g.M.ArchivedMap.E b (f c.args.key.now) Equal _ c.args.node c.loop-i.i (c.args.node + c.key_at.result) c.fetch_part.new.room c.in-Ok.place
    (ap (λ x. c.args.node + x) c.key_at.ensures) (c.in-Ok.ensures.brings b (of_same b c.loop-i.invariant.same e)) (p c.args.key.now c.fetch_part.new.room c.in-Ok.place)
    (equal_is _ (sym (ap (λ r. r.equal) c.compare_at-compared.ensures) ∙ c.if-compared-2.true)))
    (c.in-Err-fetch_part.ensures.brings b (of_same b c.in-Ok.ensures.same (of_same b c.loop-i.invariant.same e)))

pub returns-in-loop-i-clause-gives : goal.returns-in-loop-i-clause-gives
returns-in-loop-i-clause-gives g c b e f p =
    stops (record {
      within = omega arith;
      before = c.loop-i.invariant.before b e f p;
      less = λ _.
          gives_there g.K.Portable.kind g.V.Portable.kind g.M.ArchivedMap.E b (f c.args.key.now) Less _ c.args.node c.loop-i.i (c.args.node + c.key_at.result) c.fetch_part.new.room c.in-Ok.place
          (ap (λ x. c.args.node + x) c.key_at.ensures) (c.in-Ok.ensures.brings b (of_same b c.loop-i.invariant.same e)) (p c.args.key.now c.fetch_part.new.room c.in-Ok.place)
          (less_is _ (sym (ap (λ r. r.past) c.compare_at-compared.ensures) ∙ c.if-compared.false) (sym (ap (λ r. r.equal) c.compare_at-compared.ensures) ∙ c.if-compared-2.false));
    })

pub returns-clause-gives : goal.returns-clause-gives
returns-clause-gives g c b e f p = stops (record { within = omega arith; before = λ k h. c.loop-i.invariant.before b e f p k (omega arith); less = λ h. absurd (omega arith) })

pub returns-in-Err-clause-spent : goal.returns-in-Err-clause-spent
returns-in-Err-clause-spent g c = spent_more _ _ _ (c.args.node + length c.args.bytes.now) c.loop-i.i (g.M.ArchivedMap.E + 1) c.loop-i.invariant.spent c.in-Err.ensures.spent (omega (arith, c.requires.few))

pub returns-in-Ok-fetch_part-clause-spent : goal.returns-in-Ok-fetch_part-clause-spent
returns-in-Ok-fetch_part-clause-spent g c =
    spent_more _ _ _ (c.args.node + length c.args.bytes.now) (c.loop-i.i + 1) (g.M.ArchivedMap.E + 1)
    (spent_more _ _ _ (c.args.node + length c.args.bytes.now) c.loop-i.i (c.loop-i.i + 1) c.loop-i.invariant.spent c.in-Ok.ensures.spent (omega arith))
    c.in-Ok-fetch_part.ensures.spent (omega (arith, c.requires.few))

pub returns-in-Err-fetch_part-clause-spent : goal.returns-in-Err-fetch_part-clause-spent
returns-in-Err-fetch_part-clause-spent g c =
    spent_more _ _ _ (c.args.node + length c.args.bytes.now) (c.loop-i.i + 1) (g.M.ArchivedMap.E + 1)
    (spent_more _ _ _ (c.args.node + length c.args.bytes.now) c.loop-i.i (c.loop-i.i + 1) c.loop-i.invariant.spent c.in-Ok.ensures.spent (omega arith))
    c.in-Err-fetch_part.ensures.spent (omega (arith, c.requires.few))

pub returns-in-loop-i-clause-spent : goal.returns-in-loop-i-clause-spent
returns-in-loop-i-clause-spent g c = spent_more _ _ _ (c.args.node + length c.args.bytes.now) c.loop-i.i (g.M.ArchivedMap.E + 1) c.loop-i.invariant.spent c.in-Ok.ensures.spent (omega (arith, c.requires.few))

pub returns-clause-spent : goal.returns-clause-spent
returns-clause-spent g c = spent_rest _ _ (c.args.node + length c.args.bytes.now) c.loop-i.i (g.M.ArchivedMap.E + 1) c.loop-i.invariant.spent (omega (arith, c.requires.few))

pub returns-in-Err-clause-lacks : goal.returns-in-Err-clause-lacks
returns-in-Err-clause-lacks g c b e f p hi node =
    let room : length c.loop-i.room ≡ length c.args.room.now = omega arith in
    lacks_in g.K.Portable.kind g.V.Portable.kind g.M.ArchivedMap.E b g.K.Fetch.lengths g.V.Fetch.lengths c.in-Err.fault (NodeReads g.K.Portable.kind g.V.Portable.kind g.M.ArchivedMap.E b g.K.Fetch.lengths g.V.Fetch.lengths (f c.args.key.now) hi c.args.node) 0 _ _ _ room
    (key_lacks g.K.Portable.kind g.V.Portable.kind g.M.ArchivedMap.E b g.K.Fetch.lengths g.V.Fetch.lengths (f c.args.key.now) hi c.args.node c.args.count c.loop-i.i node
    (record { within = omega arith; before = c.loop-i.invariant.before b e f p }) _ _ _ (c.args.node + c.key_at.result) c.in-Err.fault (c.loop-i.invariant.takes b e)
    (ap (λ x. c.args.node + x) c.key_at.ensures) (c.in-Err.ensures.lacks b (of_same b c.loop-i.invariant.same e)))

pub returns-in-Err-fetch_part-clause-lacks : goal.returns-in-Err-fetch_part-clause-lacks
returns-in-Err-fetch_part-clause-lacks g c b e f p hi node =
    let room : length c.fetch_part.new.room ≡ length c.args.room.now = omega arith in
    lacks_in g.K.Portable.kind g.V.Portable.kind g.M.ArchivedMap.E b g.K.Fetch.lengths g.V.Fetch.lengths c.in-Err-fetch_part.fault (NodeReads g.K.Portable.kind g.V.Portable.kind g.M.ArchivedMap.E b g.K.Fetch.lengths g.V.Fetch.lengths (f c.args.key.now) hi c.args.node) 0 _ _ _ room
    (value_lacks g.K.Portable.kind g.V.Portable.kind g.M.ArchivedMap.E b g.K.Fetch.lengths g.V.Fetch.lengths (f c.args.key.now) hi c.args.node c.args.count c.loop-i.i node
    (record { within = omega arith; before = c.loop-i.invariant.before b e f p }) _ _ _ (c.args.node + c.value_at.result) c.in-Err-fetch_part.fault
    (one_more_key g.K.Portable.kind g.V.Portable.kind g.M.ArchivedMap.E b g.K.Fetch.lengths g.V.Fetch.lengths c.args.node c.loop-i.i (c.args.node + c.key_at.result) _ _ _
    (ap (λ x. c.args.node + x) c.key_at.ensures) (c.loop-i.invariant.takes b e) (c.in-Ok.ensures.takes b (of_same b c.loop-i.invariant.same e)))
    (gives_there g.K.Portable.kind g.V.Portable.kind g.M.ArchivedMap.E b (f c.args.key.now) Equal _ c.args.node c.loop-i.i (c.args.node + c.key_at.result) c.fetch_part.new.room c.in-Ok.place
    (ap (λ x. c.args.node + x) c.key_at.ensures) (c.in-Ok.ensures.brings b (of_same b c.loop-i.invariant.same e)) (p c.args.key.now c.fetch_part.new.room c.in-Ok.place)
    (equal_is _ (sym (ap (λ r. r.equal) c.compare_at-compared.ensures) ∙ c.if-compared-2.true)))
    (ap (λ x. c.args.node + x) c.value_at.ensures) (c.in-Err-fetch_part.ensures.lacks b (of_same b c.in-Ok.ensures.same (of_same b c.loop-i.invariant.same e))))

pub returns-in-Ok-fetch_part-clause-takes : goal.returns-in-Ok-fetch_part-clause-takes
returns-in-Ok-fetch_part-clause-takes g c b e f p = (
  record { within = omega arith; before = c.loop-i.invariant.before b e f p },
  gives_there g.K.Portable.kind g.V.Portable.kind g.M.ArchivedMap.E b (f c.args.key.now) Equal _ c.args.node c.loop-i.i (c.args.node + c.key_at.result) c.fetch_part.new.room c.in-Ok.place
      (ap (λ x. c.args.node + x) c.key_at.ensures) (c.in-Ok.ensures.brings b (of_same b c.loop-i.invariant.same e)) (p c.args.key.now c.fetch_part.new.room c.in-Ok.place)
      (equal_is _ (sym (ap (λ r. r.equal) c.compare_at-compared.ensures) ∙ c.if-compared-2.true)),
  hit_total g.K.Portable.kind g.V.Portable.kind g.M.ArchivedMap.E b g.K.Fetch.lengths g.V.Fetch.lengths c.args.node c.loop-i.i (c.args.node + c.key_at.result) (c.args.node + c.value_at.result) _ _ _ _
      (ap (λ x. c.args.node + x) c.key_at.ensures) (ap (λ x. c.args.node + x) c.value_at.ensures) (c.loop-i.invariant.takes b e) (c.in-Ok.ensures.takes b (of_same b c.loop-i.invariant.same e))
      (c.in-Ok-fetch_part.ensures.takes b (of_same b c.in-Ok.ensures.same (of_same b c.loop-i.invariant.same e))),
)

pub returns-in-loop-i-clause-takes : goal.returns-in-loop-i-clause-takes
returns-in-loop-i-clause-takes g c b e f p = (
  record {
    within = omega arith;
    before = c.loop-i.invariant.before b e f p;
    less = λ _.
        gives_there g.K.Portable.kind g.V.Portable.kind g.M.ArchivedMap.E b (f c.args.key.now) Less _ c.args.node c.loop-i.i (c.args.node + c.key_at.result) c.fetch_part.new.room c.in-Ok.place
        (ap (λ x. c.args.node + x) c.key_at.ensures) (c.in-Ok.ensures.brings b (of_same b c.loop-i.invariant.same e)) (p c.args.key.now c.fetch_part.new.room c.in-Ok.place)
        (less_is _ (sym (ap (λ r. r.past) c.compare_at-compared.ensures) ∙ c.if-compared.false) (sym (ap (λ r. r.equal) c.compare_at-compared.ensures) ∙ c.if-compared-2.false));
  },
  stop_total g.K.Portable.kind g.V.Portable.kind g.M.ArchivedMap.E b g.K.Fetch.lengths g.V.Fetch.lengths c.args.node c.loop-i.i c.args.count (c.args.node + c.key_at.result) _ _ _ (omega arith)
      (ap (λ x. c.args.node + x) c.key_at.ensures) (c.loop-i.invariant.takes b e) (c.in-Ok.ensures.takes b (of_same b c.loop-i.invariant.same e)),
)

pub returns-clause-takes : goal.returns-clause-takes
returns-clause-takes g c b e f p = (
  record { within = omega arith; before = λ k h. c.loop-i.invariant.before b e f p k (omega arith); less = λ h. absurd (omega arith) },
  end_total g.K.Portable.kind g.V.Portable.kind g.M.ArchivedMap.E b g.K.Fetch.lengths g.V.Fetch.lengths c.args.node c.loop-i.i c.args.count _ _ (omega arith) (c.loop-i.invariant.takes b e),
)

pub returns-in-Ok-fetch_part-clause-fits : goal.returns-in-Ok-fetch_part-clause-fits
returns-in-Ok-fetch_part-clause-fits g c b e f = (
  each_more (λ k. g.K.Fetch.lengths.room b (key_place g.K.Portable.kind g.V.Portable.kind g.M.ArchivedMap.E (c.args.node, k)) ≤ length c.args.room.now) c.loop-i.i (c.loop-i.invariant.fits b e)
      (fits_at b g.K.Fetch.lengths (ap (λ x. c.args.node + x) c.key_at.ensures) (omega arith) (c.in-Ok.ensures.fits b (of_same b c.loop-i.invariant.same e))),
  fits_at b g.V.Fetch.lengths (ap (λ x. c.args.node + x) c.value_at.ensures) (omega arith) (c.in-Ok-fetch_part.ensures.fits b (of_same b c.in-Ok.ensures.same (of_same b c.loop-i.invariant.same e))),
)

pub returns-in-loop-i-clause-fits : goal.returns-in-loop-i-clause-fits
returns-in-loop-i-clause-fits g c b e f k low =
    each_more (λ k. g.K.Fetch.lengths.room b (key_place g.K.Portable.kind g.V.Portable.kind g.M.ArchivedMap.E (c.args.node, k)) ≤ length c.args.room.now) c.loop-i.i (c.loop-i.invariant.fits b e)
    (fits_at b g.K.Fetch.lengths (ap (λ x. c.args.node + x) c.key_at.ensures) (omega arith) (c.in-Ok.ensures.fits b (of_same b c.loop-i.invariant.same e))) k (omega (arith, low))

pub returns-clause-fits : goal.returns-clause-fits
returns-clause-fits g c b e f k low = c.loop-i.invariant.fits b e k (omega (arith, low))
