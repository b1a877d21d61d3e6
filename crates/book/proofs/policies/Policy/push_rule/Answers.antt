-- `book::policies::Policy::push_rule`: what is required is that the policy with the rule is in range; the set has the rule's signal more.
use Rattle.std.proofs.Common.{◌≡◌, ◌+◌, ◌-◌, ◌^◌, ◌<◌, List, [], ◌∷◌, ◌++◌, take, length, replicate, slice_set, arith, length-append, sym, ap, ap₂, subst, ◌∙◌}
use Rattle.std.proofs.lemmas.List.{take_more_set, length-replicate}
use Rattle.arith.specs.Padding.{padded}
use Rattle.arith.proofs.Padding.{padded-more}
use Rattle.peal.specs.Policies.{Rule, Policy, mask_of}
use Rattle.peal.specs.Standins.{no_rule}
use Rattle.peal.proofs.MaskLaws.{mask-more}
use Rattle.book.specs.Acceptance.{with_rule}
use Rattle.book.specs.Ranges.{PolicyInRange}
use Rattle.book.proofs.RangeLaws.{rules-at-most, mask-fits, added-small}
use Rattle.book.proofs.policies.Policy.push_rule.Goals as goal
use Rattle.book.proofs.policies.Policy.push_rule.Goals.{After-bit}

pub bit-requires : goal.bit-requires
bit-requires c = omega (arith, added-small c.args.self.now c.args.rule c.requires)

-- the set with the signal
sum : (c : After-bit) → c.self.inside.mask + c.bit.result ≡ mask_of (take c.self.inside.count c.self.inside.rules ++ c.args.rule ∷ [])
sum c = ap₂ ◌+◌ c.self.invariant.0 c.bit.ensures ∙ mask-more (take c.self.inside.count c.self.inside.rules) c.args.rule

fits : (c : After-bit) → c.self.inside.mask + c.bit.result < 2 ^ 16
unfolding with_rule
fits c = let r = rw (← c.self.view_is) at c.requires in omega (arith, sum c, mask-fits _ r)

pub overflow_add-self : goal.overflow_add-self
overflow_add-self c = record { fits = omega (arith, fits (goal.at.overflow_add-self c).After-bit) }

pub overflow_cast-self-2 : goal.overflow_cast-self-2
overflow_cast-self-2 c = record { fits = omega (arith, fits (goal.at.overflow_cast-self-2 c).After-bit) }

-- a place is free
room : (c : After-bit) → c.self.inside.count < 16
unfolding with_rule
room c =
    let r = rw (← c.self.view_is) at c.requires in
    omega (arith, rules-at-most _ r, length-append (take c.self.inside.count c.self.inside.rules) (c.args.rule ∷ []), c.self.invariant.2)

pub bounds-self-inside-self-inside : goal.bounds-self-inside-self-inside
bounds-self-inside-self-inside c = room (goal.at.bounds-self-inside-self-inside c).After-bit

-- the rules with it
more : (c : After-bit) → take (c.self.inside.count + 1) (slice_set c.self.inside.rules c.self.inside.count c.args.rule) ≡ take c.self.inside.count c.self.inside.rules ++ c.args.rule ∷ []
unfolding padded
more c =
    let xs = take c.self.inside.count c.self.inside.rules in
    let blanks = 16 - length xs in
    take_more_set c.self.inside.rules c.self.inside.count c.args.rule (omega (arith, ap length c.self.invariant.3, length-append xs (replicate blanks no_rule), length-replicate blanks no_rule, room c))

-- the first blank is what it takes
placed : (c : After-bit) → slice_set c.self.inside.rules c.self.inside.count c.args.rule ≡ padded 16 no_rule (take c.self.inside.count c.self.inside.rules ++ c.args.rule ∷ [])
placed c =
    ap₂ (λ (places : List Rule) count. slice_set places count c.args.rule) c.self.invariant.3 (sym c.self.invariant.2)
    ∙ padded-more 16 no_rule (take c.self.inside.count c.self.inside.rules) c.args.rule (omega (arith, c.self.invariant.2, room c))

-- the policy with these rules
abbrev with : (c : After-bit) → List Rule → Policy
with c rules = record { operator = c.self.inside.operator; default = c.self.inside.default; rules = rules }

pub invariant_of-self : goal.invariant_of-self
unfolding with_rule
invariant_of-self c =
    let i = (goal.at.invariant_of-self c).After-bit in
    let m = more i in (
      sum i ∙ ap mask_of (sym m),
      subst PolicyInRange (ap (with i) (sym m)) (rw (← c.self.view_is) at c.requires),
      ap length m ∙ omega (arith, length-append (take c.self.inside.count c.self.inside.rules) (c.args.rule ∷ []), c.self.invariant.2),
      placed i ∙ ap (padded 16 no_rule) (sym m),
    )

pub returns : goal.returns
unfolding with_rule
returns c =
    let i = (goal.at.returns c).After-bit in
    ap (with i) (more i) ∙ ap (λ p. with_rule p c.args.rule) c.self.view_is
