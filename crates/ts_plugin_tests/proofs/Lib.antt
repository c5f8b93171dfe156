-- Lemmas of the tests.
mod Fair
