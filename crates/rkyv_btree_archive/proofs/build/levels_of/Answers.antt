use Rattle.std.proofs.Common.{◌≡◌, ◌+◌, ◌*◌, ◌-◌, ◌^◌, ap, arith}
use Rattle.rkyv_btree_shape.specs.Logarithm.{ilog}
use Rattle.rkyv_btree_shape.proofs.Logs.{exponent_fits, ilog_bounds}
use Rattle.rkyv_btree_shape.proofs.Smallest.{last_level_size}
use Rattle.rkyv_btree_archive.proofs.build.levels_of.Goals as goal

pub pow-requires : goal.pow-requires
pow-requires g c =
    let f = last_level_size g.row.E c.args.len c.requires.entries c.requires.some in
    let is : c.entries_to_height.result - 1 ≡ ilog (g.row.E + 1) c.args.len = omega (arith, c.entries_to_height.ensures) in
    let p : (g.row.E + 1) ^ (c.entries_to_height.result - 1) ≡ (g.row.E + 1) ^ ilog (g.row.E + 1) c.args.len = ap (λ k. (g.row.E + 1) ^ k) is in
    omega (arith, p, f.2, f.1, c.requires.fits)

pub overflow_sub-result : goal.overflow_sub-result
overflow_sub-result g c =
    let f = last_level_size g.row.E c.args.len c.requires.entries c.requires.some in
    let is : c.entries_to_height.result - 1 ≡ ilog (g.row.E + 1) c.args.len = omega (arith, c.entries_to_height.ensures) in
    let p : (g.row.E + 1) ^ (c.entries_to_height.result - 1) ≡ (g.row.E + 1) ^ ilog (g.row.E + 1) c.args.len = ap (λ k. (g.row.E + 1) ^ k) is in
    omega (arith, p, f.2, c.pow.ensures)

pub returns-clause-levels : goal.returns-clause-levels
returns-clause-levels g c =
    let f = last_level_size g.row.E c.args.len c.requires.entries c.requires.some in
    let is : c.entries_to_height.result - 1 ≡ ilog (g.row.E + 1) c.args.len = omega (arith, c.entries_to_height.ensures) in
    let p : (g.row.E + 1) ^ (c.entries_to_height.result - 1) ≡ (g.row.E + 1) ^ ilog (g.row.E + 1) c.args.len = ap (λ k. (g.row.E + 1) ^ k) is in
    let q = exponent_fits g.row.E (ilog (g.row.E + 1) c.args.len) c.args.len 32 c.requires.entries (ilog_bounds g.row.E c.args.len c.requires.entries c.requires.some).0 (omega (arith, c.requires.fits)) in omega (arith, q, is)

pub returns-clause-last : goal.returns-clause-last
returns-clause-last g c =
    let f = last_level_size g.row.E c.args.len c.requires.entries c.requires.some in
    let is : c.entries_to_height.result - 1 ≡ ilog (g.row.E + 1) c.args.len = omega (arith, c.entries_to_height.ensures) in
    let p : (g.row.E + 1) ^ (c.entries_to_height.result - 1) ≡ (g.row.E + 1) ^ ilog (g.row.E + 1) c.args.len = ap (λ k. (g.row.E + 1) ^ k) is in
    omega (arith, p, f.2, c.pow.ensures)

pub returns-clause-some : goal.returns-clause-some
returns-clause-some g c =
    let f = last_level_size g.row.E c.args.len c.requires.entries c.requires.some in
    let is : c.entries_to_height.result - 1 ≡ ilog (g.row.E + 1) c.args.len = omega (arith, c.entries_to_height.ensures) in
    let p : (g.row.E + 1) ^ (c.entries_to_height.result - 1) ≡ (g.row.E + 1) ^ ilog (g.row.E + 1) c.args.len = ap (λ k. (g.row.E + 1) ^ k) is in
    omega (arith, p, f.2, f.1, c.pow.ensures)

pub returns-clause-most : goal.returns-clause-most
returns-clause-most g c =
    let f = last_level_size g.row.E c.args.len c.requires.entries c.requires.some in
    let is : c.entries_to_height.result - 1 ≡ ilog (g.row.E + 1) c.args.len = omega (arith, c.entries_to_height.ensures) in
    let p : (g.row.E + 1) ^ (c.entries_to_height.result - 1) ≡ (g.row.E + 1) ^ ilog (g.row.E + 1) c.args.len = ap (λ k. (g.row.E + 1) ^ k) is in
    let q : g.row.E * (g.row.E + 1) ^ (c.entries_to_height.result - 1) ≡ g.row.E * (g.row.E + 1) ^ ilog (g.row.E + 1) c.args.len = ap (λ k. g.row.E * k) p in omega (arith, p, q, f.2, f.3, c.pow.ensures)
