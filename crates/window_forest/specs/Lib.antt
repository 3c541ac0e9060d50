pub mod LinkForest
