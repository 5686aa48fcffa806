-- What a listing is lent, what its rounds promise, and what it lists in all.
pub mod Rounds
