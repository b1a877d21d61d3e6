-- `book::books::Book::push_rule`: the last policy alone is changed, and stays in range.
use Rattle.std.proofs.Common.{◌≡◌, ◌-◌, length, get_or, set, sym, ap, ◌∙◌}
use Rattle.std.specs.List.{refill}
use Rattle.peal.specs.Policies.{Book}
use Rattle.book.specs.Acceptance.{with_rule, with_last, with_policies, last_policy}
use Rattle.book.proofs.RangeLaws.{last-changed, last-is, policy-put}
use Rattle.book.proofs.books.Book.push_rule.Goals as goal
use Rattle.book.proofs.books.Book.push_rule.Goals.{After-index-deref_mut-last, After-push_rule}

-- the policy that is changed
last : (c : After-index-deref_mut-last) → get_or c.deref_mut.result.now (c.len-last.result - 1) c.index-deref_mut-last.result ≡ last_policy c.args.self.now
last c =
    let is : c.index-deref_mut-last.result ≡ get_or c.deref_mut.result.now (length c.deref_mut.result.now - 1) c.index-deref_mut-last.result = rw (c.deref_mut.ensures.value, ← c.len-last.ensures.value, ← c.deref_mut.ensures.value) c.index-deref_mut-last.is in
    sym c.index-deref_mut-last.is ∙ last-is c.args.self.now c.deref_mut.result.now _ (c.deref_mut.ensures.value ∙ ap (λ (b : Book). b.policies) c.self.view_is) c.requires.some is

pub push_rule-requires : goal.push_rule-requires
push_rule-requires c = rw (last c) c.requires.range

-- the book with it
changed : (c : After-push_rule)
    → ◌≡◌ {A = Book} (record {
      policies = refill (length c.self.inside.policies.items) c.self.inside.policies.items (set c.deref_mut.result.now (c.len-last.result - 1) c.push_rule.new.self);
      exclusions = c.self.inside.exclusions.items;
      conditions = c.self.inside.conditions.items;
    })
    (with_last c.args.self.now (with_rule (last_policy c.args.self.now) c.args.rule))
unfolding with_last with_policies
changed c =
    let l = last (goal.at.After-push_rule c).After-index-deref_mut-last in
    rw (policy-put _ _ _ _ c.deref_mut.ensures.value, c.push_rule.ensures, l, c.len-last.ensures.value, ← c.self.view_is)

pub invariant_of-self : goal.invariant_of-self
invariant_of-self c = rw (changed (goal.at.invariant_of-self c).After-push_rule) (last-changed _ (rw c.self.view_is at c.self.invariant) _ c.requires.range)

pub returns : goal.returns
returns c = changed (goal.at.returns c).After-push_rule
