mod StoredLemmas
mod ListingLemmas
