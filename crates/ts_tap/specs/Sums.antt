-- A watcher that counts bytes and sums them up.
use Rattle.std.specs.Prelude.{◌≡◌, ℕ, List, length, take}
use Rattle.ts_record.specs.Sum.{sum_of}
use Rattle.ts_tap.specs.declared.sum.Sum.{Sum}
use Rattle.ts_tap.specs.SentBody.{IsSentBody}

-- what a sum says of the bytes that it took: how many of their first `most` there are, and the sum of these
pub record HasSummed (s : Sum) (taken : List ℕ) : Type 0 where
  pub count : s.count ≡ length (take s.most taken)
  pub sum : s.sum ≡ sum_of 0 (take s.most taken)

-- it is the sum of the body data of what a client took
pub record SumsBody (taken : List ℕ) (s : Sum) : Type 0 where
  pub body : List ℕ
  pub is_body : IsSentBody taken body
  pub sums : HasSummed s body
