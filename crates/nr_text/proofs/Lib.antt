pub mod BufferedLemmas
pub mod CallLemmas
pub mod CallWalks
pub mod StreamLemmas
pub mod TextLemmas
