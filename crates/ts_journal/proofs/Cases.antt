-- Cases on a test, and on whether two numbers are equal, for those who name them here.
pub use Rattle.ts_lists.proofs.Cases.{split, by_eq}
