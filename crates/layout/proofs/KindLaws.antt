-- Kinds and their numbers.
use Prim.Native.Nat.{ℕ}
use mathlib.Core.Bool.{Bool, true, false, cond}
use mathlib.Core.Path.{◌≡◌, refl}
use lib.Dec.{eqb}
use borrow.Author.Tests.{eqb-true}
use Rattle.layout.specs.Records.{Join, and, or, Kind, policy, line, exclusion, unknown, one_if, line_kind, join_kind, exclusion_kind, policy_kind, kind_of}

-- ---- what a number says of the kind

pub kind-line : kind_of line_kind ≡ line
unfolding kind_of line_kind
kind-line = refl

pub kind-policy : (q t : Bool) → kind_of (policy_kind q t) ≡ policy q t
unfolding kind_of line_kind join_kind policy_kind one_if
kind-policy true true = refl
kind-policy true false = refl
kind-policy false true = refl
kind-policy false false = refl

pub kind-join : (j : Join) → kind_of (join_kind j) ≡ Kind.join j
unfolding kind_of line_kind join_kind
kind-join and = refl
kind-join or = refl

pub kind-exclusion : kind_of exclusion_kind ≡ exclusion
unfolding kind_of line_kind join_kind policy_kind one_if exclusion_kind
kind-exclusion = refl

-- ---- what a kind says of its number

abbrev pub Numbered : Kind → ℕ → Type 0
Numbered line k = k ≡ line_kind
Numbered (policy q t) k = k ≡ policy_kind q t
Numbered (Kind.join j) k = k ≡ join_kind j
Numbered exclusion k = k ≡ exclusion_kind
Numbered unknown k = Unit {0}

pick : (P : Kind → Type 0) (k a : ℕ) (x y : Kind) → (k ≡ a → P x) → P y → P (cond (eqb k a) x y)
pick P k a x y f g = go (eqb k a) refl
  where
    go : (b : Bool) → eqb k a ≡ b → P (cond b x y)
    go true e = f (eqb-true k a e)
    go false e = g

pub numbered : (k : ℕ) → Numbered (kind_of k) k
unfolding kind_of
numbered k =
    pick (λ x. Numbered x k) k line_kind _ _ (λ e. e)
    (pick (λ x. Numbered x k) k (join_kind and) _ _ (λ e. e)
    (pick (λ x. Numbered x k) k (join_kind or) _ _ (λ e. e)
    (pick (λ x. Numbered x k) k (policy_kind false false) _ _ (λ e. e)
    (pick (λ x. Numbered x k) k (policy_kind true false) _ _ (λ e. e)
    (pick (λ x. Numbered x k) k (policy_kind false true) _ _ (λ e. e)
    (pick (λ x. Numbered x k) k (policy_kind true true) _ _ (λ e. e)
    (pick (λ x. Numbered x k) k exclusion_kind _ _ (λ e. e)
    tt)))))))
