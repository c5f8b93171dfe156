-- Which keywords no text can begin with at once.
use Rattle.std.proofs.Common.{◌≡◌, ℕ, ◌⊎◌, inl, inr, List, ◌++◌, ap, sym, ◌∙◌, refl, arith, get_or}
use Rattle.ts_record.specs.Keywords.{keyword_text, header_of, piece_keyword, stall_keyword}
use Rattle.ts_record.specs.declared.recording.TheConstants.{FIRST_VERSION, SECOND_VERSION}
use Rattle.ts_record.specs.declared.keyword.Keyword.{Keyword}
use Rattle.ts_record.specs.declared.keyword.Keyword.TheVariants as k
use Rattle.ts_record.specs.declared.keyword.Side.{Side}
use Rattle.ts_record.specs.declared.keyword.Side.TheVariants as side

-- two texts that differ at a place are not the same
pub apart : (x y : List ℕ) (place a b : ℕ) → get_or x place 0 ≡ a → get_or y place 0 ≡ b → (a ≡ b → ⊥) → x ≡ y
    → ⊥
apart x y place a b left right differ same = differ (sym left ∙ ap (λ t. get_or t place 0) same ∙ right)

-- no text begins with both
abbrev pub Differ : Keyword → Keyword → Type 0
Differ a b = (x y : List ℕ) → keyword_text a ++ x ≡ keyword_text b ++ y → ⊥

-- what follows a side's items begins with none of its keywords
pub record DifferFrom (from : Side) (keyword : Keyword) : Type 0 where
  pub piece : Differ keyword (piece_keyword from)
  pub stall : Differ keyword (stall_keyword from)

-- a text with this byte at a place is none with that one
differ_at : (a b : Keyword) (place m n : ℕ) → ((x : List ℕ) → get_or (keyword_text a ++ x) place 0 ≡ m)
    → ((y : List ℕ) → get_or (keyword_text b ++ y) place 0 ≡ n) → (m ≡ n → ⊥) → Differ a b
differ_at a b place m n left right differ x y =
    apart (keyword_text a ++ x) (keyword_text b ++ y) place m n (left x) (right y) differ

-- ---- a side's own keywords, at the byte behind its name

pub stall_not_piece : (from : Side) → Differ (stall_keyword from) (piece_keyword from)
stall_not_piece side.Client =
    differ_at k.ClientStall k.Client 6 45 32 (λ x. refl) (λ y. refl) (λ same. omega arith)
stall_not_piece side.Origin =
    differ_at k.OriginStall k.Origin 6 45 32 (λ x. refl) (λ y. refl) (λ same. omega arith)

pub piece_not_stall : (from : Side) → Differ (piece_keyword from) (stall_keyword from)
piece_not_stall from x y same = stall_not_piece from y x (sym same)

-- ---- those behind a client's

pub origin_not_client : DifferFrom side.Client k.Origin
origin_not_client = record {
  piece = differ_at k.Origin k.Client 0 111 99 (λ x. refl) (λ y. refl) (λ same. omega arith);
  stall = differ_at k.Origin k.ClientStall 0 111 99 (λ x. refl) (λ y. refl) (λ same. omega arith);
}

pub origin_stall_not_client : DifferFrom side.Client k.OriginStall
origin_stall_not_client = record {
  piece = differ_at k.OriginStall k.Client 0 111 99 (λ x. refl) (λ y. refl) (λ same. omega arith);
  stall = differ_at k.OriginStall k.ClientStall 0 111 99 (λ x. refl) (λ y. refl) (λ same. omega arith);
}

pub leave_not_client : DifferFrom side.Client k.Leave
leave_not_client = record {
  piece = differ_at k.Leave k.Client 0 108 99 (λ x. refl) (λ y. refl) (λ same. omega arith);
  stall = differ_at k.Leave k.ClientStall 0 108 99 (λ x. refl) (λ y. refl) (λ same. omega arith);
}

pub close_not_client : DifferFrom side.Client k.Close
close_not_client = record {
  piece = differ_at k.Close k.Client 2 111 105 (λ x. refl) (λ y. refl) (λ same. omega arith);
  stall = differ_at k.Close k.ClientStall 2 111 105 (λ x. refl) (λ y. refl) (λ same. omega arith);
}

-- ---- and behind an origin's

pub leave_not_origin : DifferFrom side.Origin k.Leave
leave_not_origin = record {
  piece = differ_at k.Leave k.Origin 0 108 111 (λ x. refl) (λ y. refl) (λ same. omega arith);
  stall = differ_at k.Leave k.OriginStall 0 108 111 (λ x. refl) (λ y. refl) (λ same. omega arith);
}

pub close_not_origin : DifferFrom side.Origin k.Close
close_not_origin = record {
  piece = differ_at k.Close k.Origin 0 99 111 (λ x. refl) (λ y. refl) (λ same. omega arith);
  stall = differ_at k.Close k.OriginStall 0 99 111 (λ x. refl) (λ y. refl) (λ same. omega arith);
}

-- ---- the others

pub close_not_leave : Differ k.Close k.Leave
close_not_leave = differ_at k.Close k.Leave 0 99 108 (λ x. refl) (λ y. refl) (λ same. omega arith)

pub end_not_txn : Differ k.End k.Txn
end_not_txn = differ_at k.End k.Txn 0 101 116 (λ x. refl) (λ y. refl) (λ same. omega arith)

one_not_two : Differ k.HeaderOne k.HeaderTwo
one_not_two = differ_at k.HeaderOne k.HeaderTwo 14 49 50 (λ x. refl) (λ y. refl) (λ same. omega arith)

-- a version that there is
abbrev pub IsVersion : ℕ → Type 0
IsVersion version = (version ≡ FIRST_VERSION) ⊎ (version ≡ SECOND_VERSION)

-- texts that are the same have the same version
pub same_version : (v w : ℕ) (x y : List ℕ) → IsVersion v → IsVersion w
    → keyword_text (header_of v) ++ x ≡ keyword_text (header_of w) ++ y → v ≡ w
same_version v w x y (inl one) (inl also) same = one ∙ sym also
same_version v w x y (inr two) (inr also) same = two ∙ sym also
same_version v w x y (inl one) (inr two) same =
    absurd (one_not_two x y (sym (ap (λ n. keyword_text (header_of n) ++ x) one) ∙ same
    ∙ ap (λ n. keyword_text (header_of n) ++ y) two))
same_version v w x y (inr two) (inl one) same =
    absurd (one_not_two y x (sym (ap (λ n. keyword_text (header_of n) ++ y) one) ∙ sym same
    ∙ ap (λ n. keyword_text (header_of n) ++ x) two))
