mod LaneFacts
