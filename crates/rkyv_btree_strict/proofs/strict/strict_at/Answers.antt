-- A map that is accepted stands, and what is accepted is what is read.
use Rattle.rkyv_btree_verify.proofs.MapLaws.{map_laws}
use Rattle.rkyv_btree_portable.specs.laws.Views.{stands_of}
use Rattle.rkyv_btree_strict.proofs.Opened.{strict_there}
use Rattle.rkyv_btree_strict.proofs.strict.strict_at.Goals as goal

pub closed-requires : goal.closed-requires
closed-requires g c = stands_of (map_laws _ _ _ g.met.M.Key.Portable.laws g.met.M.Mapped.Portable.laws) c.requires.fitting _ _ _ _ _ _ c.requires.accepted.1.map.1

pub returns-clause-entries : goal.returns-clause-entries
returns-clause-entries g c = strict_there _ _ _ g.met.M.Key.Portable.laws g.met.M.Mapped.Portable.laws c.args.buf.now c.args.pos c.requires.accepted.0 c.requires.accepted.1

pub invariant_of-result-2 : goal.invariant_of-result-2
invariant_of-result-2 g c =
    record { increasing = (strict_there _ _ _ g.met.M.Key.Portable.laws g.met.M.Mapped.Portable.laws c.args.buf.now c.args.pos c.requires.accepted.0 c.requires.accepted.1).increasing }
