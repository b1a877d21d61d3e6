-- `exports::cerahupo_compare`: the comparison's answer, packed.
use Prim.Native.Nat.{ℕ, ◌+◌}
use mathlib.Core.Path.{◌≡◌, ap, ◌∙◌}
use native.Mathlib.Omega.{arith}
use Rattle.exports.specs.Packing.{second_higher, as_one, of_second, packed_comparison}
use Rattle.exports.proofs.ListingRefusals.{first-in-table, second-in-table}
use Rattle.exports.proofs.cerahupo_compare.Goals as goal

pub refusal-requires : goal.refusal-requires
refusal-requires c =
    let told = rw c.in-First-listing.is at c.in-Err.ensures in
    omega (arith, c.well_formed, first-in-table _ _ told)

pub refusal-requires-in-Second-listing : goal.refusal-requires-in-Second-listing
refusal-requires-in-Second-listing c =
    let told = rw c.in-Second-listing.is at c.in-Err.ensures in
    omega (arith, c.well_formed, second-in-table _ _ told)

pub returns-in-Ok-Alike : goal.returns-in-Ok-Alike
unfolding packed_comparison
returns-in-Ok-Alike c =
    let told = rw c.in-Ok-Alike.field-0-is at c.in-Ok-Alike.ensures in
    c.accepted.ensures ∙ ap packed_comparison told

pub returns-in-First : goal.returns-in-First
unfolding packed_comparison
returns-in-First c =
    let told = rw (c.in-Ok-Differ.field-0-is, c.in-First.is) at c.in-Ok-Differ.ensures in
    c.accepted-in-First.ensures ∙ ap packed_comparison told

pub returns-in-Second : goal.returns-in-Second
unfolding packed_comparison
returns-in-Second c =
    let told = rw (c.in-Ok-Differ.field-0-is, c.in-Second.is) at c.in-Ok-Differ.ensures in
    c.accepted-in-Second.ensures ∙ ap packed_comparison told

pub returns-in-First-listing : goal.returns-in-First-listing
unfolding packed_comparison
returns-in-First-listing c =
    let told = rw c.in-First-listing.is at c.in-Err.ensures in
    c.refusal.ensures ∙ ap packed_comparison told

-- the code is higher
second-told : (r number value : ℕ) → r ≡ as_one number value → r + second_higher ≡ as_one (of_second number) value
second-told r number value e = omega arith

pub returns-in-Second-listing : goal.returns-in-Second-listing
unfolding packed_comparison
returns-in-Second-listing c =
    let told = rw c.in-Second-listing.is at c.in-Err.ensures in
    second-told _ _ _ c.refusal-in-Second-listing.ensures ∙ ap packed_comparison told
