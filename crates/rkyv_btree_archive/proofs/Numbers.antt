-- Orders of numbers, from one step to the next.
use Rattle.std.proofs.Common.{◌≡◌, ℕ, ◌+◌, ◌≤◌, arith}

pub no_less : (a b c : ℕ) → a ≤ b → b ≤ c → a ≤ c
no_less a b c first second = omega arith

pub no_less_twice : (a b c d : ℕ) → a ≤ b → b ≤ c → c ≤ d → a ≤ d
no_less_twice a b c d first second third = omega arith

pub as_much : (a b c : ℕ) → a ≤ b → c ≡ b → a ≤ c
as_much a b c low same = omega arith

pub no_more : (m n : ℕ) → m ≡ n → m ≤ n
no_more m n same = omega arith

pub ends_before : (at size whole full : ℕ) → size ≤ whole → at + whole ≤ full → at + size ≤ full
ends_before at size whole full low inside = omega arith

-- all of a list were gone through
pub as_many : (k i n : ℕ) → k ≡ i → n ≤ i → i ≤ n → k ≡ n
as_many k i n same none few = omega arith
