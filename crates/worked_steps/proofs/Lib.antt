pub mod FewHalvings
