-- What stands of a group after a turn never goes back.
use Rattle.std.specs.Prelude.{◌≡◌, ◌≤◌}
use Rattle.std.proofs.Common.{inl, inr, arith}
use Rattle.ts_journal.specs.Later.{Follows}
use Rattle.ts_journal.proofs.Later.{follows_refl, follows_trans}
use Rattle.ts_group.specs.declared.group.Group.{Group}
use Rattle.ts_group.specs.Answers.{KeepsTags}

module _ {W Q R T U : Type 0} (Fits : T → W → Type 0) where
  -- The group was made later, or is the same one, whose state does not go back. Where both were made with as
  -- many turns, the new world fits each tag that the old one fitted.
  pub record FollowsGroup (new old : Group W Q R T U) : Type 0 where
    pub journal : Follows (new.cx.log.base.made, new.cx.log.state) (old.cx.log.base.made, old.cx.log.state)
    pub tags : new.cx.log.base.made ≡ old.cx.log.base.made → KeepsTags Fits old.world new.world

  -- the same, and nothing is news again that was none
  pub record StandsAfter (new old : Group W Q R T U) : Type 0 where
    pub follows : FollowsGroup new old
    pub news : new.cx.log.base.made ≡ old.cx.log.base.made → old.cx.news_from ≤ new.cx.news_from

  -- The laws of these relations; a slot asks for those of the second.

  pub follows_itself : (t : Group W Q R T U) → FollowsGroup t t
  follows_itself t = record {
    journal = follows_refl (t.cx.log.base.made, t.cx.log.state);
    tags = λ same tag fit. fit;
  }

  pub stands_itself : (t : Group W Q R T U) → StandsAfter t t
  stands_itself t = record { follows = follows_itself t; news = λ same. omega arith }

  -- a group that follows another was made with as many turns at least
  pub made_later : (t u : Group W Q R T U) → FollowsGroup t u → u.cx.log.base.made ≤ t.cx.log.base.made
  made_later t u a = elim a.journal [ inl later ↦ omega arith | inr same ↦ let s = same.0 in omega arith ]

  -- what stands between two groups that were made with as many turns was made with as many too
  made_alike : (t u v : Group W Q R T U) → FollowsGroup t u → FollowsGroup u v
      → t.cx.log.base.made ≡ v.cx.log.base.made
      → (t.cx.log.base.made ≡ u.cx.log.base.made) × (u.cx.log.base.made ≡ v.cx.log.base.made)
  made_alike t u v a b same =
      let low = made_later t u a in
      let lower = made_later u v b in (omega arith, omega arith)

  pub follows_on : (t u v : Group W Q R T U) → FollowsGroup t u → FollowsGroup u v → FollowsGroup t v
  follows_on t u v a b = record {
    journal = follows_trans (t.cx.log.base.made, t.cx.log.state) (u.cx.log.base.made, u.cx.log.state)
        (v.cx.log.base.made, v.cx.log.state) a.journal b.journal;
    tags = λ same tag fit.
        let alike = made_alike t u v a b same in
        a.tags alike.0 tag (b.tags alike.1 tag fit);
  }

  pub stands_on : (t u v : Group W Q R T U) → StandsAfter t u → StandsAfter u v → StandsAfter t v
  stands_on t u v a b = record {
    follows = follows_on t u v a.follows b.follows;
    news = λ same.
        let alike = made_alike t u v a.follows b.follows same in
        let x = a.news alike.0 in
        let y = b.news alike.1 in omega arith;
  }
