-- `compiler::searching::search`: what is left to be found is all that is left to be put.
use Prim.Native.Nat.{ℕ}
use mathlib.Core.List.{[], ◌∷◌}
use mathlib.Core.Path.{sym, subst, ◌∙◌}
use native.Mathlib.Omega.{arith}
use borrow.Author.Rules.{rules}
use mir.Syntax.{w64}
use mir.ValLaws.{to_z-of_z}
use Rattle.compiler.proofs.SearchTurns.{ended, turn, one-room, one-put, more-room, more-put}
use Rattle.compiler.proofs.FoundLaws.{nothing-found, found_none}
use Rattle.compiler.proofs.PointLaws.{fewer-coming, as_local}
use Rattle.compiler.proofs.searching.+search.Goals as goal

pub returns-then-not-can_reach : goal.returns-then-not-can_reach
returns-then-not-can_reach g t c p h =
    let u = turn g.L.Lines.after (c.loop-left.invariant p (as_local (to_z-of_z w64 c.args.value (search rules)) h)) c.loop-left-test.true in
    ended g.L.Lines.after u (nothing-found _ u.here (sym (c.can_reach.ensures p u.here) ∙ c.if-not-can_reach.true))

pub has_reached-requires : goal.has_reached-requires
has_reached-requires g t c =
    let u = turn g.L.Lines.after (c.loop-left.invariant c.requires.0 (as_local (to_z-of_z w64 c.args.value (search rules)) c.requires.1)) c.loop-left-test.true in
    (_, fewer-coming (c.with_next-next.ensures _ u.here) 0 (omega arith))

-- ---- the next rule is tried, at the point that is asked for

pub put-requires : goal.put-requires
put-requires g t c =
    let A = g.L.Lines.after in
    let p = c.requires.0 in
    let u = turn A (c.loop-left.invariant p (as_local (to_z-of_z w64 c.args.value (search rules)) c.requires.1)) c.loop-left-test.true in
    let reaches = sym (c.can_reach.ensures p u.here) ∙ c.if-not-can_reach.false in
    let yes = sym (c.has_reached.ensures _ (fewer-coming (c.with_next-next.ensures p u.here) 0 (omega arith))) ∙ c.if-has_reached.true in
    g.met.L.Lines.left _ _ _ _ _ c.requires.2 u.put (one-room A _ u reaches yes)

pub loop-left-preserved-then-has_reached : goal.loop-left-preserved-then-has_reached
loop-left-preserved-then-has_reached g t c p h =
    let A = g.L.Lines.after in
    let u = turn A (c.loop-left.invariant p h) c.loop-left-test.true in
    let reaches = sym (c.can_reach.ensures p u.here) ∙ c.if-not-can_reach.false in
    let next = c.with_next-next.ensures p u.here in
    let yes = sym (c.has_reached.ensures _ (fewer-coming next 0 (omega arith))) ∙ c.if-has_reached.true in
    one-put A _ u reaches yes (g.met.L.Lines.append _ _ _ _ _ u.put (subst (λ (m : ℕ). A c.loop-left.lines (m ∷ []) c.put.new.self) next.masked c.put.ensures))

pub search-requires : goal.search-requires
search-requires g t c =
    let A = g.L.Lines.after in
    let p = c.requires.0 in
    let u = turn A (c.loop-left.invariant p (as_local (to_z-of_z w64 c.args.value (search rules)) c.requires.1)) c.loop-left-test.true in
    let reaches = sym (c.can_reach.ensures p u.here) ∙ c.if-not-can_reach.false in
    let next = c.with_next-next.ensures p u.here in
    let no = sym (c.has_reached.ensures _ (fewer-coming next 0 (omega arith))) ∙ c.if-has_reached.false in
    λ κs lives. (omega (arith, c.loop-left-test.true, c.decreases), (lives, (_, as_local (to_z-of_z w64 c.with_next-next.result.value (search rules)) next, g.met.L.Lines.left _ _ _ _ _ c.requires.2 u.put (more-room A _ u reaches no))))

pub loop-left-preserved : goal.loop-left-preserved
loop-left-preserved g t c p h =
    let A = g.L.Lines.after in
    let u = turn A (c.loop-left.invariant p h) c.loop-left-test.true in
    let reaches = sym (c.can_reach.ensures p u.here) ∙ c.if-not-can_reach.false in
    let next = c.with_next-next.ensures p u.here in
    let no = sym (c.has_reached.ensures _ (fewer-coming next 0 (omega arith))) ∙ c.if-has_reached.false in
    more-put A _ u reaches no (g.met.L.Lines.append _ _ _ _ _ u.put (c.search.ensures _ (as_local (to_z-of_z w64 c.with_next-next.result.value (search rules)) next)))

pub returns : goal.returns
returns g t c p h = ended g.L.Lines.after (c.loop-left.invariant p (as_local (to_z-of_z w64 c.args.value (search rules)) h)) (found_none p c.loop-left.left (omega arith))
