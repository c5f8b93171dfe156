-- The lemmas of hook plugins, for their own proofs and those of the crates above.
pub mod Passed
pub mod InOrder
pub mod HookLines
pub mod InTurn
