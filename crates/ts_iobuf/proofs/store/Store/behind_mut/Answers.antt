-- Whatever is written to the free bytes, the blocks stay.
use Rattle.std.proofs.Common.{◌≡◌, ◌+◌, ◌-◌, ◌++◌, length, take, drop, refl, ap, ◌∙◌, arith}
use Rattle.ts_iobuf.specs.Stored.{Contents}
use Rattle.ts_iobuf.proofs.Lent.{contents-over, made}
use Rattle.ts_iobuf.proofs.store.Store.behind_mut.Goals as goal

pub returns : goal.returns
returns c =
    let s = c.self.inside in
    let items = s.filling.items in
    let count : s.filled + c.args.n - s.filled ≡ c.args.n = omega arith in
    let len : s.filling.len ≡ length items = s.filling.ok.0 in (
      (
        refl,
        λ w. rw (← c.self.view_is) (
            let written = take s.filled items ++ (w ++ drop (length w) (drop s.filled items)) in
            ap (λ n. let now = take n (written ++ drop (length written) items) in
            made s.blocks.items s.start (take s.filled now) (drop s.filled now)) len
            ∙ contents-over s.blocks.items s.start s.filled items w c.self.invariant.filled),
      ),
      record {
        writes_back = tt;
        bytes = c.slice_mut.ensures.value ∙ ap (λ n. take n (drop s.filled items)) count
            ∙ ap (λ (b : Contents). take c.args.n b.behind) c.self.view_is;
      },
    )
