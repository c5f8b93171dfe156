-- What bytes have in common with keywords at their fronts.
use Rattle.std.proofs.Common.{◌≡◌, ℕ, ◌+◌, ◌-◌, ◌<◌, ◌≤◌, List, [], ◌∷◌, ◌++◌, length, Bool, true, false}
use Rattle.std.proofs.Common.{cond, ap, sym, ◌∙◌, subst, refl, inl, inr, length-append, append_assoc, arith}
use Rattle.std.specs.Prelude.{◌==◌, nat_lt}
use Rattle.std.proofs.Math.Nat.{le-max_left, le-max_right, max-eq_left, max-eq_right}
use Rattle.std.proofs.lemmas.Bool.Decides.{Decides-eqb, nat_tests}
use Rattle.std.proofs.lemmas.List.{append-nil}
use Rattle.ts_record.specs.Keywords.{keyword_text, common, most_common, LacksAll}
use Rattle.ts_record.specs.Refusing.{Opens, Stuck, BreaksOff, OneOf}
use Rattle.ts_record.specs.declared.keyword.Keyword.{Keyword}

-- the common front of two texts, and what stands behind it in each
pub record Parts (xs ys : List ℕ) : Type 0 where
  pub front : List ℕ
  pub left : List ℕ
  pub right : List ℕ
  pub left_is : xs ≡ front ++ left
  pub right_is : ys ≡ front ++ right
  pub count : common xs ys ≡ length front

pub parts : (xs ys : List ℕ) → Parts xs ys
parts [] ys = record { front = []; left = []; right = ys; left_is = refl; right_is = refl; count = refl }
parts (x ∷ xs) [] = record {
  front = [];
  left = x ∷ xs;
  right = [];
  left_is = refl;
  right_is = refl;
  count = refl;
}
parts (x ∷ xs) (y ∷ ys) = either (parts xs ys) (x == y) refl
  where
    either : Parts xs ys → (b : Bool) → (x == y) ≡ b → Parts (x ∷ xs) (y ∷ ys)
    either p true is =
        let same : x ≡ y = (Decides-eqb x y).0 is in
        let count : common (x ∷ xs) (y ∷ ys) ≡ 1 + common xs ys = ap (λ b. cond b (1 + common xs ys) 0) is in
        record {
          front = x ∷ p.front;
          left = p.left;
          right = p.right;
          left_is = ap (λ l. x ∷ l) p.left_is;
          right_is = ap (λ l. y ∷ l) p.right_is ∙ ap (λ b. b ∷ (p.front ++ p.right)) (sym same);
          count = omega (arith, count, p.count);
        }
    either p false is = record {
      front = [];
      left = x ∷ xs;
      right = y ∷ ys;
      left_is = refl;
      right_is = refl;
      count = ap (λ b. cond b (1 + common xs ys) 0) is;
    }

-- a text that begins with a front from which a token goes on has so much in common with that token
pub at_least : (k : ℕ) (front token x y z : List ℕ) → k ≤ length front → k ≤ length token
    → front ++ y ≡ token ++ z → k ≤ common (front ++ x) token
at_least k [] token x y z within also same = omega arith
at_least k (a ∷ fs) [] x y z within also same = omega arith
at_least k (a ∷ fs) (c ∷ cs) x y z within also same =
    let first : a ≡ c = cc in let others : fs ++ y ≡ cs ++ z = cc in
    let less : k - 1 ≤ common (fs ++ x) cs =
    at_least (k - 1) fs cs x y z (omega arith) (omega arith) others in
    let is : (a == c) ≡ true = (Decides-eqb a c).1 first in
    let count : common ((a ∷ fs) ++ x) (c ∷ cs) ≡ 1 + common (fs ++ x) cs =
    ap (λ b. cond b (1 + common (fs ++ x) cs) 0) is in
    omega (arith, less, count)

-- what a test of two numbers says
pub is_below : (m n : ℕ) → nat_lt m n ≡ true → m < n
is_below m n is = grind (arith, nat_tests)

pub is_not_below : (m n : ℕ) → nat_lt m n ≡ false → n ≤ m
is_not_below m n is = grind (arith, nat_tests)

-- no keyword has more in common with the bytes than the best of them, and one has as much
pub most_of : (x token : List ℕ) (ks : List Keyword) → OneOf ks token → common x token ≤ most_common x ks
most_of x token [] is = absurd is
most_of x token (k ∷ ks) (inl is) =
    let same : common x token ≡ common x (keyword_text k) = ap (common x) is in
    omega (arith, same, le-max_left (common x (keyword_text k)) (most_common x ks))
most_of x token (k ∷ ks) (inr is) =
    omega (arith, most_of x token ks is, le-max_right (common x (keyword_text k)) (most_common x ks))

pub best : (x : List ℕ) (ks : List Keyword) → 0 < length ks
    → (token : List ℕ) × OneOf ks token × (common x token ≡ most_common x ks)
best x [] some = absurd (omega arith)
best x (k ∷ []) some = (keyword_text k, inl refl, sym (max-eq_left (omega arith)))
best x (k ∷ l ∷ ks) some =
    either (best x (l ∷ ks) (omega arith)) (nat_lt (common x (keyword_text k)) (most_common x (l ∷ ks))) refl
  where
    either : ((token : List ℕ) × OneOf (l ∷ ks) token × (common x token ≡ most_common x (l ∷ ks)))
        → (b : Bool)
        → nat_lt (common x (keyword_text k)) (most_common x (l ∷ ks)) ≡ b
        → (token : List ℕ) × OneOf (k ∷ l ∷ ks) token × (common x token ≡ most_common x (k ∷ l ∷ ks))
    either (token, is, count) true worse =
        let below : common x (keyword_text k) ≤ most_common x (l ∷ ks) =
        omega (arith, is_below (common x (keyword_text k)) (most_common x (l ∷ ks)) worse) in
        (token, inr is, count ∙ sym (max-eq_right below))
    either (token, is, count) false better =
        let below : most_common x (l ∷ ks) ≤ common x (keyword_text k) =
        is_not_below (common x (keyword_text k)) (most_common x (l ∷ ks)) better in
        (keyword_text k, inl refl, sym (max-eq_left below))

pub lacks_token : (x token z : List ℕ) (ks : List Keyword) → LacksAll x ks → OneOf ks token → x ≡ token ++ z
    → ⊥
lacks_token x token z [] lacks is same = is
lacks_token x token z (k ∷ ks) lacks (inl is) same = lacks.0 z (same ∙ ap (λ t. t ++ z) is)
lacks_token x token z (k ∷ ks) lacks (inr is) same = lacks_token x token z ks lacks.1 is same

-- where none of some keywords stands at the front, the bytes are refused behind the best of them
pub refuses_keywords : (x : List ℕ) (ks : List Keyword) (left : ℕ) → 0 < length ks → LacksAll x ks
    → left + most_common x ks ≡ length x → BreaksOff (OneOf ks) x left
refuses_keywords x ks left some lacks is =
    let b = best x ks some in let p = parts x b.0 in record {
      front = p.front;
      rest = p.left;
      bytes_are = p.left_is;
      left_is = omega (arith, p.count, b.2, ap length p.left_is, length-append p.front p.left);
      begun = (p.right, subst (OneOf ks) p.right_is b.1);
      stuck = stuck p.front p.left p.left_is (omega (arith, p.count, b.2));
    }
  where
    partly : (token front : List ℕ) (c : ℕ) (rest more z : List ℕ) → OneOf ks token → x ≡ front ++ c ∷ rest
        → length front ≡ most_common x ks
        → front ++ c ∷ more ≡ token ++ z → (p : Parts x token) → (right : List ℕ) → token ≡ p.front ++ right
        → ⊥
    partly token front c rest more z one are count same p [] whole =
        lacks_token x token p.left ks lacks one (p.left_is
        ∙ ap (λ t. t ++ p.left) (sym (append-nil p.front) ∙ sym whole))
    partly token front c rest more z one are count same p (r ∷ right) whole =
        let longer : common x token + 1 ≤ length token =
        omega (arith, p.count, ap length whole, length-append p.front (r ∷ right)) in
        let most : common x token ≤ most_common x ks = most_of x token ks one in
        let within : common x token + 1 ≤ length (front ++ c ∷ []) =
        omega (arith, length-append front (c ∷ [])) in
        let goes : (front ++ c ∷ []) ++ more ≡ token ++ z = append_assoc front (c ∷ []) more ∙ same in
        let begins : (front ++ c ∷ []) ++ rest ≡ x = append_assoc front (c ∷ []) rest ∙ sym are in
        let less : common x token + 1 ≤ common ((front ++ c ∷ []) ++ rest) token =
        at_least (common x token + 1) (front ++ c ∷ []) token rest more z within longer goes in
        let equal : common ((front ++ c ∷ []) ++ rest) token ≡ common x token =
        ap (λ t. common t token) begins in
        omega (arith, less, equal)

    stuck : (front rest : List ℕ) → x ≡ front ++ rest → length front ≡ most_common x ks
        → Stuck (Opens (OneOf ks)) front rest
    stuck front [] are count =
        λ (token, z, one, same). lacks_token x token z ks lacks one (are ∙ append-nil front ∙ same)
    stuck front (c ∷ cs) are count = λ more (token, z, one, same).
        partly token front c cs more z one are count same (parts x token) (parts x token).right
        (parts x token).right_is
