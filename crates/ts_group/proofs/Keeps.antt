-- What a world keeps, over one call after the other.
use Rattle.std.proofs.Common.{ℕ, ◌+◌, ◌≤◌, Option, Some, None, arith}
use Rattle.ts_group.specs.Context.{Context}
use Rattle.ts_group.specs.Answers.{Falls, KeepsTags, SetsAtMost, SameReplies, SameGroups, KeepsPromises}

pub falls_refl : (o : Option ℕ) → Falls o 0 o
falls_refl None = tt
falls_refl (Some n) = omega arith

pub falls_trans : (a b c : Option ℕ) (m n : ℕ) → Falls a m b → Falls b n c → Falls a (m + n) c
falls_trans None b c m n h k = tt
falls_trans (Some x) None c m n h k = absurd h
falls_trans (Some x) (Some y) None m n h k = absurd k
falls_trans (Some x) (Some y) (Some z) m n h k = omega arith

pub replies_refl : {Q R : Type 0} (A : ℕ → Q → R → Type 0) → SameReplies A A
replies_refl A = λ group question reply. (λ h. h, λ h. h)

pub replies_trans : {Q R : Type 0} (A B C : ℕ → Q → R → Type 0) → SameReplies A B → SameReplies B C
    → SameReplies A C
replies_trans A B C p q = λ group question reply. (
  λ h. (q group question reply).0 ((p group question reply).0 h),
  λ h. (p group question reply).1
      ((q group question reply).1 h),
)

pub groups_refl : (A : ℕ → Type 0) → SameGroups A A
groups_refl A = λ group. (λ h. h, λ h. h)

pub groups_trans : (A B C : ℕ → Type 0) → SameGroups A B → SameGroups B C → SameGroups A C
groups_trans A B C p q = λ group. (λ h. (q group).0 ((p group).0 h), λ h. (p group).1 ((q group).1 h))

pub sets_trans : {T W : Type 0} (fits : T → W → Type 0) (v w : W) (m n k : ℕ) (a b c : Context)
    → KeepsTags fits v w → SetsAtMost fits v m a b → SetsAtMost fits w n b c → m + n ≤ k
    → SetsAtMost fits v k a c
sets_trans fits v w m n k a b c tags p q le = λ t h. let x = p t h in let y = q t (tags t h) in omega arith

pub promises_refl : {T W Q R : Type 0} (Fits : T → W → Type 0) (Right : W → ℕ → Q → R → Type 0)
    (MayAsk : W → ℕ → Type 0) (w : W) → KeepsPromises Fits Right MayAsk w w
promises_refl Fits Right MayAsk w = record {
  tags = λ t h. h;
  replies = replies_refl (Right w);
  groups =
      groups_refl (MayAsk w);
}

pub promises_trans : {T W Q R : Type 0} (Fits : T → W → Type 0) (Right : W → ℕ → Q → R → Type 0)
    (MayAsk : W → ℕ → Type 0) (u v w : W)
    → KeepsPromises Fits Right MayAsk u v → KeepsPromises Fits Right MayAsk v w
    → KeepsPromises Fits Right MayAsk u w
promises_trans Fits Right MayAsk u v w p q = record {
  tags = λ t h. q.tags t (p.tags t h);
  replies = replies_trans (Right u) (Right v) (Right w) p.replies q.replies;
  groups = groups_trans (MayAsk u) (MayAsk v) (MayAsk w) p.groups q.groups;
}
