pub mod SmallStreams
