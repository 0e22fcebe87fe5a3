pub mod OpenHubFacts
